-- The order of the integers, and its tests. Assumes nothing.
use Rattle.std.proofs.Common.{◌≡◌, Bool, true, false, T, ◌⊎◌, ℤ, ◌≤ℤ◌, ◌<ℤ◌, Decides, sym, refl, subst, inl, inr, ⊎_elim, arith, w32, SFits}
use lib.Signed.{lt_z, le_z}
use Rattle.std.proofs.lemmas.Int.{ints}
use Rattle.std.proofs.lemmas.Bool.{and_parts, and_from, cases_Bool}
use Rattle.number.specs.Exact.{Int32, fits32, eq_z, least, greatest}

-- ---- the order

pub le_refl : (a : ℤ) → a ≤ℤ a
le_refl a = omega (arith, ints)

pub le_trans : {a b c : ℤ} → a ≤ℤ b → b ≤ℤ c → a ≤ℤ c
le_trans {a} {b} {c} p q = omega (arith, ints)

pub le_antisym : {a b : ℤ} → a ≤ℤ b → b ≤ℤ a → a ≡ b
le_antisym {a} {b} p q = omega (arith, ints)

pub le_of_eq : {a b : ℤ} → a ≡ b → a ≤ℤ b
le_of_eq {a} {b} e = omega (arith, ints)

pub le_of_lt : {a b : ℤ} → a <ℤ b → a ≤ℤ b
le_of_lt {a} {b} p = omega (arith, ints)

pub lt-le-trans : {a b c : ℤ} → a <ℤ b → b ≤ℤ c → a <ℤ c
lt-le-trans {a} {b} {c} p q = omega (arith, ints)

pub le_lt_trans : {a b c : ℤ} → a ≤ℤ b → b <ℤ c → a <ℤ c
le_lt_trans {a} {b} {c} p q = omega (arith, ints)

pub lt_not_le : {a b : ℤ} → a <ℤ b → b ≤ℤ a → ⊥
lt_not_le {a} {b} p q = omega (arith, ints)

-- ---- its tests

true_of : (t : Bool) → T t → t ≡ true
true_of true h = refl
true_of false h = absurd h

of-true : (t : Bool) → t ≡ true → T t
of-true t e = subst T (sym e) tt

pub le-from-test : {a b : ℤ} → le_z a b ≡ true → a ≤ℤ b
le-from-test {a} {b} e = record { le = of-true (le_z a b) e }

pub test-from-le : {a b : ℤ} → a ≤ℤ b → le_z a b ≡ true
test-from-le {a} {b} h = true_of (le_z a b) h.le

pub lt-from-test : {a b : ℤ} → lt_z a b ≡ true → a <ℤ b
lt-from-test {a} {b} e = record { lt = of-true (lt_z a b) e }

pub test-from-lt : {a b : ℤ} → a <ℤ b → lt_z a b ≡ true
test-from-lt {a} {b} h = true_of (lt_z a b) h.lt

pub lt-from-no-le : (a b : ℤ) → le_z a b ≡ false → b <ℤ a
lt-from-no-le a b e = omega (arith, ints)

pub le-from-no-lt : (a b : ℤ) → lt_z a b ≡ false → b ≤ℤ a
le-from-no-lt a b e = omega (arith, ints)

pub no-le-from-lt : {a b : ℤ} → b <ℤ a → le_z a b ≡ false
no-le-from-lt {a} {b} h = sym (omega (arith, ints))

pub no-lt-from-le : {a b : ℤ} → b ≤ℤ a → lt_z a b ≡ false
no-lt-from-le {a} {b} h = sym (omega (arith, ints))

-- either order holds, or the other
pub le-or-lt : (a b : ℤ) → (a ≤ℤ b) ⊎ (b <ℤ a)
le-or-lt a b = ⊎_elim (λ e. inl (le-from-test e)) (λ e. inr (lt-from-no-le a b e)) (cases_Bool (le_z a b))

pub le_total : (a b : ℤ) → (a ≤ℤ b) ⊎ (b ≤ℤ a)
le_total a b = ⊎_elim inl (λ h. inr (le_of_lt h)) (le-or-lt a b)

pub eq-from-test : {a b : ℤ} → eq_z a b ≡ true → a ≡ b
eq-from-test {a} {b} e =
    let p = and_parts (le_z a b) (le_z b a) e in
    le_antisym (le-from-test p.0) (le-from-test p.1)

pub test-from-eq : {a b : ℤ} → a ≡ b → eq_z a b ≡ true
test-from-eq {a} {b} e = and_from (le_z a b) (le_z b a) (test-from-le (le_of_eq e)) (test-from-le (le_of_eq (sym e)))

pub decides-le : (a b : ℤ) → Decides (le_z a b) (a ≤ℤ b)
decides-le a b = (le-from-test, test-from-le)

pub decides-lt : (a b : ℤ) → Decides (lt_z a b) (a <ℤ b)
decides-lt a b = (lt-from-test, test-from-lt)

pub decides_eq : (a b : ℤ) → Decides (eq_z a b) (a ≡ b)
decides_eq a b = (eq-from-test, test-from-eq)

-- ---- integers of 32 bits

pub fits-from-test : {z : ℤ} → fits32 z ≡ true → Int32 z
fits-from-test {z} e =
    let p = and_parts (le_z least z) (le_z z greatest) e in
    record { low = le-from-test p.0; high = le-from-test p.1 }

pub test-from-fits : {z : ℤ} → Int32 z → fits32 z ≡ true
test-from-fits {z} h = and_from (le_z least z) (le_z z greatest) (test-from-le h.low) (test-from-le h.high)

pub decides-fits : (z : ℤ) → Decides (fits32 z) (Int32 z)
decides-fits z = (fits-from-test, test-from-fits)

pub int32-of-width : {z : ℤ} → SFits w32 z → Int32 z
int32-of-width {z} f = record { low = omega (arith, ints); high = omega (arith, ints) }

pub width-of-int32 : {z : ℤ} → Int32 z → SFits w32 z
width-of-int32 {z} h = omega (arith, ints, h.low, h.high)
