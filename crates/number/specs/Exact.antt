-- What the operations and the relations mean, over the unbounded integers. Assumes nothing.
use Rattle.std.specs.Prelude.{Bool, true, false, not, ◌&&◌, ℤ, pos, negsuc, ◌+ℤ◌, ◌-ℤ◌, ◌*ℤ◌, ◌≤ℤ◌, Ok, Err, Result, int_div, int_le, int_lt}
use Rattle.number.specs.declared.Op.{Op}
use Rattle.number.specs.declared.Op.TheVariants.{Add, Sub, Mul, Div, IsLess, IsAtMost, IsEqual, IsUnequal}
use Rattle.number.specs.declared.Relation.{Relation}
use Rattle.number.specs.declared.Relation.TheVariants.{Less, AtMost, Equal, Unequal, Greater, AtLeast}
use Rattle.number.specs.declared.Trap.{Trap}
use Rattle.number.specs.declared.Trap.TheVariants.{Zero, Range}

-- the least and the greatest integer of 32 bits
abbrev pub least : ℤ
least = negsuc 2147483647

abbrev pub greatest : ℤ
greatest = pos 2147483647

-- z is an integer of 32 bits
pub record Int32 (z : ℤ) : Type 0 where
  pub low : least ≤ℤ z
  pub high : z ≤ℤ greatest

-- the same, as a test
abbrev pub fits32 : ℤ → Bool
fits32 z = int_le least z && int_le z greatest

abbrev pub eq_z : ℤ → ℤ → Bool
eq_z x y = int_le x y && int_le y x

abbrev pub holds : Relation → ℤ → ℤ → Bool
holds Less x y = int_lt x y
holds AtMost x y = int_le x y
holds Equal x y = eq_z x y
holds Unequal x y = not (eq_z x y)
holds Greater x y = int_lt y x
holds AtLeast x y = int_le y x

-- the relation with its sides exchanged: x rel y exactly if y (mirrored rel) x
abbrev pub mirrored : Relation → Relation
mirrored Less = Greater
mirrored AtMost = AtLeast
mirrored Equal = Equal
mirrored Unequal = Unequal
mirrored Greater = Less
mirrored AtLeast = AtMost

-- the relation that holds exactly where this one does not
abbrev pub opposite : Relation → Relation
opposite Less = AtLeast
opposite AtMost = Greater
opposite Equal = Unequal
opposite Unequal = Equal
opposite Greater = AtMost
opposite AtLeast = Less

-- 1 where a comparison holds, else 0
abbrev pub truth : Bool → ℤ
truth true = pos 1
truth false = pos 0

-- what an operation gives over the unbounded integers; the quotient drops the fraction, toward zero,
-- and means nothing where the divisor is 0
abbrev pub exact : Op → ℤ → ℤ → ℤ
exact Add x y = x +ℤ y
exact Sub x y = x -ℤ y
exact Mul x y = x *ℤ y
exact Div x y = int_div x y
exact IsLess x y = truth (holds Less x y)
exact IsAtMost x y = truth (holds AtMost x y)
exact IsEqual x y = truth (holds Equal x y)
exact IsUnequal x y = truth (holds Unequal x y)

-- the operation divides
abbrev pub divides : Op → Bool
divides Add = false
divides Sub = false
divides Mul = false
divides Div = true
divides IsLess = false
divides IsAtMost = false
divides IsEqual = false
divides IsUnequal = false

-- a divisor of 0 is a zero trap
abbrev pub zero_trap : Op → ℤ → ℤ → Bool
zero_trap op x y = divides op && eq_z y (pos 0)

-- otherwise a result that is no integer of 32 bits is a range trap
abbrev pub range_trap : Op → ℤ → ℤ → Bool
range_trap op x y = not (zero_trap op x y) && not (fits32 (exact op x y))

abbrev pub or_else : {A : Type 0} → Bool → Trap → Result A Trap → Result A Trap
or_else true t r = Err t
or_else false t r = r

-- an integer of 32 bits, or the range trap
abbrev pub in_range : ℤ → Result ℤ Trap
in_range z = or_else (not (fits32 z)) Range (Ok z)

-- what one operation on two 32-bit integers answers: its result, or the trap
abbrev pub worked : Op → ℤ → ℤ → Result ℤ Trap
worked op x y = or_else (zero_trap op x y) Zero (or_else (range_trap op x y) Range (Ok (exact op x y)))
