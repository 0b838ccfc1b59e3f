-- The operations of strides. A stride has a modulus m and a remainder r. With m = 0 it is constant, and describes r alone;
-- otherwise it describes each integer n with n − r divisible by m. Assumes nothing.
use Rattle.std.specs.Prelude.{◌≡◌, ℕ, ◌+◌, ◌*◌, Bool, true, false, cond, not, ◌&&◌, List, length, ℤ, pos, ◌-ℤ◌, Some, None, Ok, Err, Option, Result, ◌==◌, slice_index, unsigned_abs, refl}
use Rattle.std.proofs.Common.{to_z}
use Rattle.arith.specs.Residues.{Congruent, gcd}
use Rattle.std.specs.Int.{int_rem_euclid, w32}
use Rattle.std.specs.Option.{unwrap_or}
use Rattle.number.specs.Exact.{eq_z, exact, holds, worked}
use Rattle.number.specs.declared.Op.{Op}
use Rattle.number.specs.declared.Op.TheVariants.{Add, Sub, Mul, Div, IsLess, IsAtMost, IsEqual, IsUnequal}
use Rattle.number.specs.declared.Relation.{Relation}
use Rattle.number.specs.declared.Relation.TheVariants.{Less, AtMost, Equal, Unequal, Greater, AtLeast}
use Rattle.number.specs.declared.Trap.{Trap}
use Rattle.number.specs.declared.Trap.TheVariants.{Zero, Range}
use Rattle.domain.specs.Model.{Ops}
use Rattle.stride.specs.declared.value.Stride.{Stride}
use Rattle.stride.specs.Divisors.{is_multiple}
use Rattle.stride.specs.Fitting.{fitting}

abbrev pub describes : Stride → ℤ → Type 0
describes s z = Congruent s.modulus z s.remainder

abbrev pub made_if : (m : ℕ) (r : ℤ) (t : Bool) → fitting m r ≡ t → Option Stride
made_if m r true e = Some (record { modulus = m; remainder = r; fits = e })
made_if m r false e = None

-- the stride of a modulus and a remainder that fit together
unfoldable pub made : ℕ → ℤ → Option Stride
made m r = made_if m r (fitting m r) refl

abbrev pub anything : Stride
anything = record { modulus = 1; remainder = pos 0; fits = refl }

-- the same of two that are known to fit
abbrev pub strided : ℕ → ℤ → Stride
strided m r = unwrap_or (made m r) anything

abbrev pub constant : Stride → Bool
constant s = s.modulus == 0

-- the modulus in two bytes and the remainder in four, the low byte first, the remainder in two's complement
abbrev pub reads : List ℕ → Option Stride
reads cell = cond (length cell == 6) (made (slice_index cell 0 + slice_index cell 1 * 256) (to_z w32 (slice_index cell 2 + slice_index cell 3 * 256 + slice_index cell 4 * 65536 + slice_index cell 5 * 16777216))) None

-- the bytes of modulus 1 and remainder 0
abbrev pub blank : ℕ → ℕ
blank i = cond (i == 0) 1 0

-- what of one integer is constant
abbrev pub value : ℤ → ℤ → Stride
value lo hi = cond (eq_z lo hi) (strided 0 lo) anything

-- the first modulus divides the second and the difference of the remainders
abbrev pub covers : Stride → Stride → Bool
covers a b = is_multiple a.modulus b.modulus && is_multiple a.modulus (unsigned_abs (b.remainder -ℤ a.remainder))

-- two constants are worked exactly
abbrev pub constants : Result ℤ Trap → Stride × Bool × Bool
constants (Ok z) = (strided 0 z, false, false)
constants (Err Zero) = (anything, true, false)
constants (Err Range) = (anything, false, true)

-- other sums, differences and products: modulus g, and the remainder by g of what the operation gives on the remainders
abbrev pub moved : ℕ → ℤ → Stride × Bool × Bool
moved g z = (strided g (int_rem_euclid z (pos g)), false, true)

-- other strides, whose moduli have the greatest common divisor g
abbrev pub steps : Op → ℕ → ℤ → ℤ → Stride × Bool × Bool
steps Add g r s = moved g (exact Add r s)
steps Sub g r s = moved g (exact Sub r s)
steps Mul g r s = moved g (exact Mul r s)
steps Div g r s = (anything, eq_z s (pos 0), true)
steps IsLess g r s = (anything, false, false)
steps IsAtMost g r s = (anything, false, false)
steps IsEqual g r s = (anything, false, false)
steps IsUnequal g r s = (anything, false, false)

abbrev pub works : Op → Stride → Stride → Stride × Bool × Bool
works op a b = cond (constant a && constant b) (constants (worked op a.remainder b.remainder)) (steps op (gcd a.modulus b.modulus) a.remainder b.remainder)

abbrev pub is_equal : Relation → Bool
is_equal Less = false
is_equal AtMost = false
is_equal Equal = true
is_equal Unequal = false
is_equal Greater = false
is_equal AtLeast = false

-- by = it gives b where a covers b; two constants that fail the relation give none; else it gives a
abbrev pub narrows : Stride → Relation → Stride → Option Stride
narrows a rel b = cond (is_equal rel && covers a b) (Some b) (cond (constant a && constant b && not (holds rel a.remainder b.remainder)) None (Some a))

abbrev pub stride_ops : Ops Stride
stride_ops = record { width = 6; blank = blank; reads = reads; anything = anything; value = value; covers = covers; works = works; narrows = narrows }
