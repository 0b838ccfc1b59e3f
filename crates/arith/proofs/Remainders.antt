-- Sums, differences and products of integers that differ by a multiple do so too; common divisors. Assumes nothing.
use Rattle.std.proofs.Common.{◌≡◌, ℕ, zero, suc, ◌*◌, ◌/◌, ◌%◌, ◌<◌, ℤ, pos, negsuc, ◌+ℤ◌, ◌-ℤ◌, ◌*ℤ◌, neg_ℤ, ◌≤ℤ◌, ◌<ℤ◌, sym, refl, ap, ◌∙◌, mod-lt, arith}
use Prim.Native.Nat.{◌∣◌}
use native.Mathlib.Nat.{dvd_refl, dvd-zero, dvd-mod_iff, mul-div_cancel', zero-mod, mod-add-div}
use lib.IntN.{*ℤ_comm}
use Rattle.std.specs.Int.{int_rem_euclid}
use Rattle.std.proofs.lemmas.Int.{ints}
use Rattle.arith.specs.Residues.{Congruent, gcd_within, gcd}
use Rattle.arith.proofs.Products.{times-sum, sum-times, times-neg, times-assoc}

-- ---- integers that differ by a multiple

module _ (m : ℕ) where
  pub congruent-refl : (x : ℤ) → Congruent m x x
  congruent-refl x = (pos 0, omega (arith, ints))

  pub congruent-sym : (x y : ℤ) → Congruent m x y → Congruent m y x
  congruent-sym x y (k, e) = (neg_ℤ k, omega (arith, ints, times-neg (pos m) k))

  pub congruent-trans : (x y z : ℤ) → Congruent m x y → Congruent m y z → Congruent m x z
  congruent-trans x y z (k, e) (l, f) = (l +ℤ k, omega (arith, ints, times-sum (pos m) l k))

  pub congruent-sum : (x y x' y' : ℤ) → Congruent m x x' → Congruent m y y' → Congruent m (x +ℤ y) (x' +ℤ y')
  congruent-sum x y x' y' (k, e) (l, f) = (k +ℤ l, omega (arith, ints, times-sum (pos m) k l))

  pub congruent-difference : (x y x' y' : ℤ) → Congruent m x x' → Congruent m y y' → Congruent m (x -ℤ y) (x' -ℤ y')
  congruent-difference x y x' y' (k, e) (l, f) = (k -ℤ l, omega (arith, ints, times-sum (pos m) k (neg_ℤ l), times-neg (pos m) l))

  congruent-times : (x x' y : ℤ) → Congruent m x x' → Congruent m (x *ℤ y) (x' *ℤ y)
  congruent-times x x' y (k, e) =
      (k *ℤ y, ap (λ (z : ℤ). z *ℤ y) e ∙ sum-times x' (pos m *ℤ k) y ∙ ap (λ (z : ℤ). (x' *ℤ y) +ℤ z) (times-assoc (pos m) k y))

  pub congruent-product : (x y x' y' : ℤ) → Congruent m x x' → Congruent m y y' → Congruent m (x *ℤ y) (x' *ℤ y')
  congruent-product x y x' y' p q =
      let turned : Congruent m (x' *ℤ y) (x' *ℤ y') = rw (*ℤ_comm x' y, *ℤ_comm x' y') (congruent-times y y' x' q) in
      congruent-trans (x *ℤ y) (x' *ℤ y) (x' *ℤ y') (congruent-times x x' y p) turned

-- what differs by a multiple of m differs by one of each divisor of m
pub congruent-by : (g m : ℕ) (x y : ℤ) → g ∣ m → Congruent m x y → Congruent g x y
congruent-by g m x y d (k, e) =
    let q : m ≡ g * (m / g) = sym (mul-div_cancel' g d) in
    (pos (m / g) *ℤ k, e ∙ ap (λ (z : ℤ). y +ℤ z) (ap (λ (n : ℕ). pos n *ℤ k) q ∙ times-assoc (pos g) (pos (m / g)) k))

-- ---- the greatest common divisor

-- one division, whatever the number allowed, as long as it suffices
within_more : (n k a b : ℕ) → b < n → b < k → gcd_within n a b ≡ gcd_within k a b
unfolding gcd_within
within_more zero k a b p q = absurd (omega arith)
within_more (suc n) zero a b p q = absurd (omega arith)
within_more (suc n) (suc k) a zero p q = refl
within_more (suc n) (suc k) a (suc b) p q =
    within_more n k (suc b) (a % suc b) (omega (arith, mod-lt a {m = suc b} (omega arith))) (omega (arith, mod-lt a {m = suc b} (omega arith)))

pub gcd-zero-right : (a : ℕ) → gcd a 0 ≡ a
unfolding gcd gcd_within
gcd-zero-right a = refl

pub gcd-step : (a b : ℕ) → 0 < b → gcd a b ≡ gcd b (a % b)
unfolding gcd gcd_within
gcd-step a zero p = absurd (omega arith)
gcd-step a (suc b) p =
    within_more (suc b) (suc (a % suc b)) (suc b) (a % suc b) (mod-lt a {m = suc b} (omega arith)) (omega arith)

pub gcd-zero-left : (m : ℕ) → gcd 0 m ≡ m
gcd-zero-left zero = gcd-zero-right 0
gcd-zero-left (suc m) = gcd-step 0 (suc m) (omega arith) ∙ ap (gcd (suc m)) (zero-mod (suc m)) ∙ gcd-zero-right (suc m)

within-divides : (n a b : ℕ) → b < n → (gcd_within n a b ∣ a) × (gcd_within n a b ∣ b)
unfolding gcd_within
within-divides zero a b p = absurd (omega arith)
within-divides (suc n) a zero p = (dvd_refl a, dvd-zero a)
within-divides (suc n) a (suc b) p =
    let d = within-divides n (suc b) (a % suc b) (omega (arith, mod-lt a {m = suc b} (omega arith))) in
    ((dvd-mod_iff _ d.0).0 d.1, d.0)

pub gcd-divides-left : (a b : ℕ) → gcd a b ∣ a
unfolding gcd
gcd-divides-left a b = (within-divides (suc b) a b (omega arith)).0

pub gcd-divides-right : (a b : ℕ) → gcd a b ∣ b
unfolding gcd
gcd-divides-right a b = (within-divides (suc b) a b (omega arith)).1

within-greatest : (n a b d : ℕ) → d ∣ a → d ∣ b → d ∣ gcd_within n a b
unfolding gcd_within
within-greatest zero a b d p q = p
within-greatest (suc n) a zero d p q = p
within-greatest (suc n) a (suc b) d p q = within-greatest n (suc b) (a % suc b) d q ((dvd-mod_iff d q).1 p)

-- every common divisor divides it
pub gcd-greatest : (a b d : ℕ) → d ∣ a → d ∣ b → d ∣ gcd a b
unfolding gcd
gcd-greatest a b d = within-greatest (suc b) a b d

-- ---- operations on x and y of which x' and y' are the remainders by m and n

module _ (m n : ℕ) (x y x' y' : ℤ) (p : Congruent m x x') (q : Congruent n y y') where
  on-left : Congruent (gcd m n) x x'
  on-left = congruent-by (gcd m n) m x x' (gcd-divides-left m n) p

  on-right : Congruent (gcd m n) y y'
  on-right = congruent-by (gcd m n) n y y' (gcd-divides-right m n) q

  pub gcd-sum : Congruent (gcd m n) (x +ℤ y) (x' +ℤ y')
  gcd-sum = congruent-sum (gcd m n) x y x' y' on-left on-right

  pub gcd-difference : Congruent (gcd m n) (x -ℤ y) (x' -ℤ y')
  gcd-difference = congruent-difference (gcd m n) x y x' y' on-left on-right

  pub gcd-product : Congruent (gcd m n) (x *ℤ y) (x' *ℤ y')
  gcd-product = congruent-product (gcd m n) x y x' y' on-left on-right

-- ---- the remainder itself

-- it differs by a multiple
pub remainder-congruent : (m : ℕ) (z : ℤ) → 0 < m → Congruent m z (int_rem_euclid z (pos m))
remainder-congruent m (pos a) p = (pos (a / m), ap pos (sym (mod-add-div a m)))
remainder-congruent m (negsuc a) p = (negsuc (a / m), omega (arith, ints, mod-add-div a m, mod-lt a {m = m} p))

-- it lies below m
pub remainder-below : (m : ℕ) (z : ℤ) → 0 < m → (pos 0 ≤ℤ int_rem_euclid z (pos m)) × (int_rem_euclid z (pos m) <ℤ pos m)
remainder-below m (pos a) p = (omega (arith, ints), omega (arith, ints, mod-lt a {m = m} p))
remainder-below m (negsuc a) p = (omega (arith, ints), omega (arith, ints, mod-lt a {m = m} p))

only-by : (m : ℕ) (r s k : ℤ) → r ≡ s +ℤ (pos m *ℤ k) → pos 0 ≤ℤ r → r <ℤ pos m → pos 0 ≤ℤ s → s <ℤ pos m → r ≡ s
only-by m r s (pos zero) e a b c d = omega (arith, ints)
only-by m r s (pos (suc k)) e a b c d = absurd (omega (arith, ints))
only-by m r s (negsuc k) e a b c d = absurd (omega (arith, ints))

-- and it is the only such number
pub remainder-only : (m : ℕ) (r s : ℤ) → Congruent m r s → pos 0 ≤ℤ r → r <ℤ pos m → pos 0 ≤ℤ s → s <ℤ pos m → r ≡ s
remainder-only m r s (k, e) = only-by m r s k e
