-- Quotients toward zero: their size, and how they rise and fall. Assumes nothing.
use Rattle.std.proofs.Common.{◌≡◌, ℕ, zero, suc, ◌+◌, ◌/◌, ◌<◌, ◌≤◌, ℤ, pos, negsuc, neg_ℤ, ◌≤ℤ◌, sym, refl, mul-le-mul_left, div-le_self, arith, w32, w64, SFits}
use native.Mathlib.Nat.{div-zero, mul-div-le}
use lib.IntN.{neg_ℤ-neg_ℤ}
use lib.Signed.{mag, quot_z}
use Rattle.std.proofs.lemmas.Int.{ints}
use Rattle.std.proofs.lemmas.Nat.{le-div}

size : (x y : ℤ) → mag (quot_z x y) ≤ mag x + 1
size (pos a) (pos b) = omega (arith, div-le_self a b)
size (pos a) (negsuc b) = omega (arith, ints, div-le_self a (suc b))
size (negsuc a) (pos b) = omega (arith, ints, div-le_self (suc a) b)
size (negsuc a) (negsuc b) = omega (arith, div-le_self (suc a) (suc b))

-- a quotient of 32-bit integers fits 64 bits
pub quotient_fits : (x y : ℤ) → SFits w32 x → SFits w64 (quot_z x y)
quotient_fits x y f = record { sfits = omega (arith, size x y, f.sfits) }

-- ---- of natural numbers

div-rises : (a c b : ℕ) → a ≤ c → a / b ≤ c / b
div-rises a c zero h = omega (arith, div-zero a)
div-rises a c (suc b) h = le-div (a / suc b) c (suc b) (omega arith) (omega (arith, mul-div-le a (suc b)))

div-falls : (a b c : ℕ) → 0 < b → b ≤ c → a / c ≤ a / b
div-falls a b c p h = le-div (a / c) a b p (omega (arith, mul-div-le a c, mul-le-mul_left (a / c) h))

-- ---- of integers

-- a divisor with its sign turned
pub quot-turned : (x : ℤ) (b : ℕ) → quot_z x (negsuc b) ≡ neg_ℤ (quot_z x (pos (suc b)))
quot-turned (pos a) b = refl
quot-turned (negsuc a) b = sym (neg_ℤ-neg_ℤ (pos (suc a / suc b)))

-- by a divisor that is not negative, a quotient rises with the dividend
pub quot-rises : (x z : ℤ) (b : ℕ) → x ≤ℤ z → quot_z x (pos b) ≤ℤ quot_z z (pos b)
quot-rises (pos a) (pos c) b h = omega (arith, ints, div-rises a c b (omega (arith, ints)))
quot-rises (pos a) (negsuc c) b h = absurd h.le
quot-rises (negsuc a) (pos c) b h = omega (arith, ints)
quot-rises (negsuc a) (negsuc c) b h = omega (arith, ints, div-rises (suc c) (suc a) b (omega (arith, ints)))

-- of a dividend that is not negative, a quotient falls as the positive divisor rises
pub quot-falls : (a b c : ℕ) → 0 < b → b ≤ c → quot_z (pos a) (pos c) ≤ℤ quot_z (pos a) (pos b)
quot-falls a b c p h = omega (arith, ints, div-falls a b c p h)

-- of a negative dividend, it rises
pub quot-rises-by : (a b c : ℕ) → 0 < b → b ≤ c → quot_z (negsuc a) (pos b) ≤ℤ quot_z (negsuc a) (pos c)
quot-rises-by a b c p h = omega (arith, ints, div-falls (suc a) b c p h)
