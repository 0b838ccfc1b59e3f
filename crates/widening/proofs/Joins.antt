-- Pieces of one size, one after another. Assumes nothing.
use Rattle.std.proofs.Common.{◌≡◌, ℕ, zero, suc, ◌-◌, ◌*◌, ◌<◌, ◌≤◌, List, [], ◌++◌, length, take, drop, refl, ap, ◌∙◌, ⊎_elim, not-suc-le-zero, mul-le-mul_right, arith, length-append, length-drop, length-take}
use Rattle.std.proofs.lemmas.List.{take_all, take-append-le, drop_at, drop-append-le, get_or_append_left, get_or-append_right, nil_from_length}
use Rattle.std.proofs.lemmas.Bool.{cases_lt}
use Rattle.scan.specs.Scan.{chunk}
use Rattle.scan.proofs.Pieces.{piece-ends}
use Rattle.sheet.specs.Bytes.{AllBytes}
use Rattle.widening.specs.Widened.{pieces}

module _ (f : ℕ → List ℕ) (size : ℕ) where
  pub length-pieces : (n : ℕ) → ((i : ℕ) → i < n → length (f i) ≡ size) → length (pieces f n) ≡ n * size
  length-pieces zero all = omega arith
  length-pieces (suc n) all =
      let before = length-pieces n (λ i h. all i (omega arith)) in
      omega (arith, length-append (pieces f n) (f n), before, all n (omega arith))

  -- a piece is found again at its index
  pub chunk-pieces : (n : ℕ) → ((i : ℕ) → i < n → length (f i) ≡ size) → (i : ℕ) → i < n → chunk size i (pieces f n) ≡ f i
  chunk-pieces zero all i h = absurd (not-suc-le-zero h)
  chunk-pieces (suc n) all i h = ⊎_elim
      (λ (q : i < n).
      let long = length-pieces n (λ j k. all j (omega arith)) in
      let ends = piece-ends size n i q in
      ap (take size) (drop-append-le (i * size) (pieces f n) (f n) (omega arith))
      ∙ take-append-le size (drop (i * size) (pieces f n)) (f n) (simp length-drop (omega arith))
      ∙ chunk-pieces n (λ j k. all j (omega arith)) i q)
      (λ (q : n ≤ i).
      let same : n ≡ i = omega arith in
      let long = length-pieces n (λ j k. all j (omega arith)) in
      rw (← same)
      (ap (take size) (drop_at (pieces f n) (f n) (n * size) long) ∙ take_all size (f n) (omega (arith, all n (omega arith)))))
      (cases_lt i n)

-- past the last record there is nothing
pub chunk-past : (size count i : ℕ) (xs : List ℕ) → length xs ≡ count * size → count ≤ i → chunk size i xs ≡ []
chunk-past size count i xs e h =
    let more : count * size ≤ i * size = mul-le-mul_right size h in
    nil_from_length (chunk size i xs) (simp (length-take, length-drop) (omega arith))

-- bytes after bytes are bytes
pub append-bytes : (xs ys : List ℕ) → AllBytes xs → AllBytes ys → AllBytes (xs ++ ys)
append-bytes xs ys h k i = ⊎_elim
    (λ (q : i < length xs). rw (get_or_append_left xs ys 0 i q) (h i))
    (λ (q : length xs ≤ i). rw (get_or-append_right xs ys (length xs) i 0 refl q) (k (i - length xs)))
    (cases_lt i (length xs))

pub pieces-bytes : (f : ℕ → List ℕ) → ((i : ℕ) → AllBytes (f i)) → (n : ℕ) → AllBytes (pieces f n)
pieces-bytes f all zero i = omega arith
pieces-bytes f all (suc n) i = append-bytes (pieces f n) (f n) (pieces-bytes f all n) (all n) i
