-- What the answers of strides come to, in words of what they describe. Assumes nothing.
use Rattle.std.specs.Prelude.{◌≡◌, ℕ, Bool, true, false, ◌||◌, ℤ, pos, negsuc, ◌+ℤ◌, ◌-ℤ◌, ◌*ℤ◌, ◌≤ℤ◌, ◌<ℤ◌, Some, None, Option, ◌≢◌}
use Rattle.number.specs.Exact.{Int32, eq_z, exact, holds, zero_trap, range_trap}
use Rattle.number.specs.declared.Op.{Op}
use Rattle.number.specs.declared.Op.TheVariants.{Add, Sub, Mul, Div, IsLess, IsAtMost, IsEqual, IsUnequal}
use Rattle.number.specs.declared.Relation.{Relation}
use Rattle.number.specs.declared.Relation.TheVariants.{Equal, Unequal}
use Rattle.arith.specs.Residues.{Congruent}
use Rattle.stride.specs.declared.value.Stride.{Stride}
use Rattle.stride.specs.Divisors.{Greatest}
use Rattle.stride.specs.Strides.{describes, anything, strided, covers, works, narrows}

-- b describes no integer that a does not describe
abbrev pub NoMore : Stride → Stride → Type 0
NoMore b a = (z : ℤ) → Int32 z → describes b z → describes a z

-- one integer is constant, and more are anything
pub record FromTo (lo hi : ℤ) (s : Stride) : Type 0 where
  pub modulus : lo ≡ hi → s.modulus ≡ 0
  pub remainder : lo ≡ hi → s.remainder ≡ lo
  pub more : (lo ≢ hi) → s ≡ anything

-- two constants r and s: the warnings are the traps, and without one the result is the constant
pub record Exactly (op : Op) (r s : ℤ) (got : Stride × Bool × Bool) : Type 0 where
  pub zero : got.1 ≡ zero_trap op r s
  pub range : got.2 ≡ range_trap op r s
  pub modulus : zero_trap op r s ≡ false → range_trap op r s ≡ false → got.0.modulus ≡ 0
  pub remainder : zero_trap op r s ≡ false → range_trap op r s ≡ false → got.0.remainder ≡ exact op r s
  pub warned : (zero_trap op r s || range_trap op r s) ≡ true → got.0 ≡ anything

-- the greatest common divisor of m and n for a modulus, and the remainder of z by it, with the range warning
pub record Moves (m n : ℕ) (z : ℤ) (got : Stride × Bool × Bool) : Type 0 where
  pub modulus : Greatest m n got.0.modulus
  pub remainder : Congruent got.0.modulus z got.0.remainder
  pub low : pos 0 ≤ℤ got.0.remainder
  pub high : got.0.remainder <ℤ pos got.0.modulus
  pub zero : got.1 ≡ false
  pub range : got.2 ≡ true

-- where one of two strides is not constant
abbrev pub Gives : Op → Stride → Stride → Stride × Bool × Bool → Type 0
Gives Add a b got = Moves a.modulus b.modulus (a.remainder +ℤ b.remainder) got
Gives Sub a b got = Moves a.modulus b.modulus (a.remainder -ℤ b.remainder) got
Gives Mul a b got = Moves a.modulus b.modulus (a.remainder *ℤ b.remainder) got
Gives Div a b got = got ≡ (anything, eq_z b.remainder (pos 0), true)
Gives IsLess a b got = got ≡ (anything, false, false)
Gives IsAtMost a b got = got ≡ (anything, false, false)
Gives IsEqual a b got = got ≡ (anything, false, false)
Gives IsUnequal a b got = got ≡ (anything, false, false)

pub record Works (op : Op) (a b : Stride) (got : Stride × Bool × Bool) : Type 0 where
  pub constants : a.modulus ≡ 0 → b.modulus ≡ 0 → Exactly op a.remainder b.remainder got
  pub otherwise : (a.modulus ≡ 0 → b.modulus ≢ 0) → Gives op a b got

-- by = it gives b where a describes all of b; two constants that fail the relation give none; else it gives a
pub record Narrows (a : Stride) (rel : Relation) (b : Stride) (got : Option Stride) : Type 0 where
  pub equal : rel ≡ Equal → NoMore b a → got ≡ Some b
  pub failed : a.modulus ≡ 0 → b.modulus ≡ 0 → holds rel a.remainder b.remainder ≡ false → got ≡ None
  pub otherwise : (rel ≡ Equal → NoMore b a → ⊥) → (a.modulus ≡ 0 → b.modulus ≡ 0 → holds rel a.remainder b.remainder ≢ false) → got ≡ Some a

-- cases worked out
pub record Examples : Type 0 where
  pub sum : works Add (strided 2 (pos 1)) (strided 4 (pos 3)) ≡ (strided 2 (pos 0), false, true)
  pub quotient : works Div (strided 0 (pos 7)) (strided 0 (negsuc 1)) ≡ (strided 0 (negsuc 2), false, false)
  pub product : works Mul (strided 0 (pos 3)) (strided 6 (pos 5)) ≡ (strided 6 (pos 3), false, true)
  pub past : works Div (strided 0 (negsuc 2147483647)) (strided 0 (negsuc 0)) ≡ (anything, false, true)
  pub odd_divisor : works Div anything (strided 2 (pos 1)) ≡ (anything, false, true)
  pub even_divisor : works Div anything (strided 2 (pos 0)) ≡ (anything, true, true)
  pub finer : covers (strided 2 (pos 1)) (strided 4 (pos 3)) ≡ true
  pub coarser : covers (strided 4 (pos 3)) (strided 2 (pos 1)) ≡ false
  pub equal : narrows (strided 2 (pos 1)) Equal (strided 4 (pos 3)) ≡ Some (strided 4 (pos 3))
  pub failed : narrows (strided 0 (pos 5)) Unequal (strided 0 (pos 5)) ≡ None
