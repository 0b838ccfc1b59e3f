-- Records that are the same because their first words and their last eight bytes are. Assumes nothing.
use Rattle.std.proofs.Common.{◌≡◌, ℕ, zero, suc, ◌+◌, ◌-◌, ◌*◌, ◌/◌, ◌≤◌, List, length, take, drop, ◌++◌, sym, ap, ap₂, ◌∙◌, suc-mul, arith}
use Rattle.std.proofs.Math.Seq.{take-add}
use Rattle.std.proofs.lemmas.List.{take-take, take-append-drop}
use Rattle.std.specs.List.{concat}
use Rattle.std.specs.Simd.{first_chunks}

-- the first k runs of n elements are the first k * n elements
joined : (n k : ℕ) (xs : List ℕ) → concat (first_chunks n k xs) ≡ take (k * n) xs
joined n zero xs = let none : 0 ≡ 0 * n = omega arith in ap (λ m. take m xs) none
joined n (suc k) xs = let more : n + k * n ≡ suc k * n = omega (arith, suc-mul k n) in ap (λ ys. take n xs ++ ys) (joined n k (drop n xs)) ∙ sym (take-add n (k * n) xs) ∙ ap (λ m. take m xs) more

-- two lists whose first m elements are the same, and those from d on
overlapping : (xs ys : List ℕ) (d m : ℕ) → d ≤ m → take m xs ≡ take m ys → drop d xs ≡ drop d ys → xs ≡ ys
overlapping xs ys d m h front back =
    sym (take-append-drop d xs)
    ∙ ap₂ ◌++◌ (sym (take-take d m xs h) ∙ ap (take d) front ∙ take-take d m ys h) back
    ∙ take-append-drop d ys

pub same-by-words : (xs ys : List ℕ) → length xs ≡ length ys → first_chunks 8 (length xs / 8) xs ≡ first_chunks 8 (length ys / 8) ys → drop (length xs - 8) xs ≡ drop (length ys - 8) ys → xs ≡ ys
same-by-words xs ys long words last =
    let n = length xs in
    overlapping xs ys (n - 8) (n / 8 * 8) (omega arith)
    (sym (joined 8 (n / 8) xs) ∙ ap concat words ∙ joined 8 (length ys / 8) ys ∙ ap (λ m. take (m / 8 * 8) ys) (sym long))
    (last ∙ ap (λ m. drop (m - 8) ys) (sym long))
