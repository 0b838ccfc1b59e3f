-- Integers that differ by a multiple, and the greatest common divisor. Assumes nothing.
use Rattle.std.specs.Prelude.{◌≡◌, ℕ, zero, suc, ◌%◌, ℤ, pos, ◌+ℤ◌, ◌*ℤ◌}

-- x is y plus a multiple of m; by 0, x is y
abbrev pub Congruent : ℕ → ℤ → ℤ → Type 0
Congruent m x y = (k : ℤ) × (x ≡ y +ℤ (pos m *ℤ k))

-- Euclid's way, in at most the given number of divisions
unfoldable pub gcd_within : ℕ → ℕ → ℕ → ℕ
gcd_within zero a b = a
gcd_within (suc n) a zero = a
gcd_within (suc n) a (suc b) = gcd_within n (suc b) (a % suc b)

-- the greatest common divisor; that of 0 and m is m
unfoldable pub gcd : ℕ → ℕ → ℕ
gcd a b = gcd_within (suc b) a b
