-- Records one after another. Assumes nothing.
use Rattle.std.proofs.Common.{◌≡◌, ℕ, zero, suc, ◌+◌, ◌*◌, ◌<◌, cond, List, [], ◌∷◌, ◌++◌, length, get_or, take, drop, is_ok, Ok, Result, sym, refl, ap, ◌∙◌, append_assoc, append-nil, not-suc-le-zero, suc-mul, zero-mul, arith, length-append}
use Rattle.std.proofs.lemmas.List.{take_at, drop_at, drop-drop, take_more}
use Rattle.scan.specs.Scan.{chunk}
use Rattle.writing.specs.Laid.{joined, All}

-- what a vector holds once some bytes were added
pub pushed : {E : Type 0} (old new more : List ℕ) (r : Result (Unit {0}) E) (u : Unit {0}) → new ≡ cond (is_ok r) (old ++ more) old → r ≡ Ok u → new ≡ old ++ more
pushed old new more r u e w = e ∙ ap (λ x. cond (is_ok x) (old ++ more) old) w

module _ {A : Type 0} (bytes : A → List ℕ) where
  pub joined-append : (xs ys : List A) → joined bytes (xs ++ ys) ≡ joined bytes xs ++ joined bytes ys
  joined-append [] ys = refl
  joined-append (x ∷ xs) ys = ap (λ r. bytes x ++ r) (joined-append xs ys) ∙ sym (append_assoc (bytes x) (joined bytes xs) (joined bytes ys))

  -- one record more
  pub joined-more : (xs : List A) (i : ℕ) (d : A) → i < length xs → joined bytes (take (i + 1) xs) ≡ joined bytes (take i xs) ++ bytes (get_or xs i d)
  joined-more xs i d h = ap (joined bytes) (take_more xs i d h) ∙ joined-append (take i xs) (get_or xs i d ∷ []) ∙ ap (λ r. joined bytes (take i xs) ++ r) (append-nil (bytes (get_or xs i d)))

  module _ (size : ℕ) (long : (x : A) → length (bytes x) ≡ size) where
    pub joined_length : (xs : List A) → length (joined bytes xs) ≡ length xs * size
    joined_length [] = sym (zero-mul size)
    joined_length (x ∷ xs) = length-append (bytes x) (joined bytes xs) ∙ omega (arith, long x, joined_length xs, suc-mul (length xs) size)

    -- a record is found again at its index
    pub found : (P : A → Type 0) (xs : List A) → All P xs → (i : ℕ) → i < length xs → (x : A) × (chunk size i (joined bytes xs) ≡ bytes x) × P x
    found P [] all i h = absurd (not-suc-le-zero h)
    found P (x ∷ xs) all zero h = (x, ap (λ n. take size (drop n (bytes x ++ joined bytes xs))) (zero-mul size) ∙ take_at (bytes x) (joined bytes xs) size (long x), all.0)
    found P (x ∷ xs) all (suc i) h =
        let rest = found P xs all.1 i (omega arith) in (
          rest.0,
          ap (λ n. take size (drop n (bytes x ++ joined bytes xs))) (omega (arith, suc-mul i size))
              ∙ ap (take size) (sym (drop-drop (i * size) size (bytes x ++ joined bytes xs)) ∙ ap (drop (i * size)) (drop_at (bytes x) (joined bytes xs) size (long x)))
              ∙ rest.1,
          rest.2,
        )
