-- Tests of multiples, and the size of a common divisor. Assumes nothing.
use Rattle.std.specs.Prelude.{◌≡◌, ℕ, suc, ◌*◌, ◌/◌, ◌%◌, ◌<◌, ◌≤◌, true, ◌⊎◌, ℤ, pos, negsuc, ◌-ℤ◌, ◌*ℤ◌, neg_ℤ, ◌≢◌, unsigned_abs, refl}
use Rattle.std.proofs.Common.{inl, inr, ⊎_elim, sym, ap, subst, ◌∙◌, arith}
use Rattle.std.specs.Int.{◌∣◌}
use Rattle.std.proofs.Math.Nat.{dvd-mul_right, mod-eq-zero_of_dvd, dvd_of_mod-eq-zero, eq-zero_of_zero-dvd, le_of_dvd, mul-div_cancel'}
use Rattle.std.proofs.lemmas.Int.{unsigned_abs-mul, ints}
use Rattle.std.proofs.lemmas.Bool.{eqb-true, eq-eqb, cases_eq}
use Rattle.arith.specs.Residues.{Congruent, gcd}
use Rattle.arith.proofs.Products.{times-neg}
use Rattle.arith.proofs.Remainders.{gcd-divides-left, gcd-divides-right, gcd-greatest as every-divides}
use Rattle.stride.specs.Divisors.{is_multiple, Greatest}

pub multiple-divides : (d n : ℕ) → is_multiple d n ≡ true → d ∣ n
multiple-divides d n e = dvd_of_mod-eq-zero d (eqb-true (n % d) 0 e)

pub divides-multiple : (d n : ℕ) → d ∣ n → is_multiple d n ≡ true
divides-multiple d n h = eq-eqb (n % d) 0 (mod-eq-zero_of_dvd d h)

-- integers differ by a multiple exactly if it divides the size of the difference
from-difference : (m : ℕ) (x y d : ℤ) → x -ℤ y ≡ d → m ∣ unsigned_abs d → Congruent m x y
from-difference m x y (pos n) e h =
    let q : n ≡ m * (n / m) = sym (mul-div_cancel' m h) in
    (pos (n / m), omega (arith, ints, e, q))
from-difference m x y (negsuc n) e h =
    let q : suc n ≡ m * (suc n / m) = sym (mul-div_cancel' m h) in
    (neg_ℤ (pos (suc n / m)), omega (arith, ints, e, q, times-neg (pos m) (pos (suc n / m))))

pub congruent-from : (m : ℕ) (x y : ℤ) → m ∣ unsigned_abs (x -ℤ y) → Congruent m x y
congruent-from m x y h = from-difference m x y (x -ℤ y) refl h

pub congruent-to : (m : ℕ) (x y : ℤ) → Congruent m x y → m ∣ unsigned_abs (x -ℤ y)
congruent-to m x y (k, e) =
    let d : x -ℤ y ≡ pos m *ℤ k = omega (arith, ints, e) in
    subst (λ n. m ∣ n) (sym (ap unsigned_abs d ∙ unsigned_abs-mul (pos m) k)) (dvd-mul_right m (unsigned_abs k))

pub gcd-greatest : (a b : ℕ) → Greatest a b (gcd a b)
gcd-greatest a b = record { first = gcd-divides-left a b; second = gcd-divides-right a b; greatest = every-divides a b }

module _ (m n : ℕ) (e : m ≡ 0 → n ≢ 0) where
  pub gcd-positive : 0 < gcd m n
  gcd-positive = ⊎_elim
      (λ z. absurd (e (eq-zero_of_zero-dvd (subst (λ g. g ∣ m) z (gcd-divides-left m n))) (eq-zero_of_zero-dvd (subst (λ g. g ∣ n) z (gcd-divides-right m n)))))
      (λ z. omega arith) (cases_eq (gcd m n) 0)

  pub gcd-small : (top : ℕ) → m ≤ top → n ≤ top → gcd m n ≤ top
  gcd-small top i j = ⊎_elim
      (λ z. ⊎_elim (λ y. absurd (e z y)) (λ y. omega (arith, le_of_dvd {m = gcd m n} {n = n} (omega arith) (gcd-divides-right m n))) (cases_eq n 0))
      (λ z. omega (arith, le_of_dvd {m = gcd m n} {n = m} (omega arith) (gcd-divides-left m n)))
      (cases_eq m 0)

pub not-both : {P Q : Type 0} → (P × (Q → ⊥)) ⊎ (P → ⊥) → P → Q → ⊥
not-both (inl h) p q = h.1 q
not-both (inr h) p q = h p
