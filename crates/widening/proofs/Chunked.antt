-- The chunks of a list, each written as a piece over a buffer. Assumes nothing.
use Rattle.std.proofs.Common.{◌≡◌, ℕ, ◌+◌, ◌-◌, ◌*◌, ◌<◌, ◌≤◌, List, [], ◌++◌, length, take, drop, sym, ap, ◌∙◌, ap₂, ⊎_elim, zero-mul, add-one, append_assoc, append-nil, arith, length-append, length-drop}
use Rattle.std.proofs.lemmas.List.{take_at, drop_at, drop-drop, nil_from_length}
use Rattle.std.proofs.lemmas.Bool.{cases_lt}
use borrow.Rule.Slice.PartMut.{put_mid}
use Rattle.scan.specs.Scan.{chunk}
use Rattle.scan.proofs.Pieces.{piece-ends}
use Rattle.widening.specs.Widened.{pieces}
use Rattle.widening.proofs.Joins.{length-pieces}

-- n chunks of xs: i of them are written over the buffer o as pieces of a size, which gives out, and the rest is left
pub record Midway (f : ℕ → List ℕ) (size step n : ℕ) (xs o : List ℕ) (i : ℕ) (rest out : List ℕ) : Type 0 where
  pub long : length xs ≡ n * size
  pub room : length o ≡ n * step
  pub sized : (x : ℕ) → x < n → length (f x) ≡ step
  pub within : i ≤ n
  pub left : rest ≡ drop (i * size) xs
  pub done : out ≡ pieces f i ++ drop (i * step) o

pub at-first : (f : ℕ → List ℕ) (size step n : ℕ) (xs o : List ℕ) (i : ℕ) (rest : List ℕ) → length xs ≡ n * size → length o ≡ n * step → ((x : ℕ) → x < n → length (f x) ≡ step)
    → i ≡ 0 → rest ≡ xs → Midway f size step n xs o i rest o
at-first f size step n xs o i rest long room sized e r = rw e (record {
  long = long;
  room = room;
  sized = sized;
  within = omega arith;
  left = r ∙ ap (λ k. drop k xs) (sym (zero-mul size));
  done = ap (λ k. drop k o) (sym (zero-mul step));
})

module _ (f : ℕ → List ℕ) {size step n : ℕ} {xs o : List ℕ} {i : ℕ} {rest out : List ℕ} (m : Midway f size step n xs o i rest out) where
  -- the next chunk, where there is one
  module _ (some : 1 ≤ size) (cell after : List ℕ) (e : rest ≡ cell ++ after) (sized : length cell ≡ size) where
    one-more : i < n
    one-more = ⊎_elim
        (λ (q : i < n). q)
        (λ (q : n ≤ i).
        let same : i ≡ n = omega (arith, m.within) in
        let none : length rest ≡ n * size - i * size = ap length m.left ∙ length-drop (i * size) xs ∙ ap (λ k. k - i * size) m.long in
        absurd (omega (arith, ap (λ k. k * size) same, ap length e, length-append cell after)))
        (cases_lt i n)

    pub chunk-is : cell ≡ chunk size i xs
    chunk-is = sym (ap (take size) (sym m.left ∙ e) ∙ take_at cell after size sized)

    -- its piece ends inside the buffer
    pub ends-inside : i * step + step ≤ length out
    ends-inside =
        let before = length-pieces f step i (λ x l. m.sized x (omega (arith, one-more))) in
        let whole : length out ≡ i * step + (length o - i * step) = ap length m.done ∙ length-append (pieces f i) (drop (i * step) o) ∙ ap₂ ◌+◌ before (length-drop (i * step) o) in
        omega (arith, piece-ends step n i one-more, m.room)

    -- once that is written there is one more
    pub turn : (new : List ℕ) (k : ℕ) → k ≡ step → new ≡ f i → Midway f size step n xs o (i + 1) after (put_mid (i * step) k out new)
    turn new k s w =
        let before = length-pieces f step i (λ x l. m.sized x (omega (arith, one-more))) in
        record {
          long = m.long;
          room = m.room;
          sized = m.sized;
          within = omega (arith, one-more);
          left = sym (ap (drop size) (sym m.left ∙ e) ∙ drop_at cell after size sized) ∙ drop-drop size (i * size) xs ∙ ap (λ j. drop j xs) (omega arith);
          done =
              ap₂ ◌++◌ (ap (take (i * step)) m.done ∙ take_at (pieces f i) (drop (i * step) o) (i * step) before)
              (ap₂ ◌++◌ w
              (ap₂ (λ j l. drop j l) s (ap (drop (i * step)) m.done ∙ drop_at (pieces f i) (drop (i * step) o) (i * step) before)
              ∙ drop-drop step (i * step) o
              ∙ ap (λ j. drop j o) (omega arith)))
              ∙ sym (append_assoc (pieces f i) (f i) (drop ((i + 1) * step) o))
              ∙ ap (λ j. pieces f j ++ drop ((i + 1) * step) o) (sym (add-one i));
        }

  -- with no chunk left all are written
  pub all-done : length rest < size → out ≡ pieces f n
  all-done h =
      let same : i ≡ n = ⊎_elim
      (λ (q : i < n).
      let ends = piece-ends size n i q in
      absurd (omega (arith, m.long, ap length m.left, length-drop (i * size) xs)))
      (λ (q : n ≤ i). omega (arith, m.within))
      (cases_lt i n) in
      let none : drop (i * step) o ≡ [] = nil_from_length (drop (i * step) o) (simp length-drop (omega (arith, m.room, ap (λ k. k * step) same))) in
      m.done ∙ ap (λ l. pieces f i ++ l) none ∙ append-nil (pieces f i) ∙ ap (pieces f) same
