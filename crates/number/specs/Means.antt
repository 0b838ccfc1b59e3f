-- The rules of the operations and relations, in plain statements about all integers. Assumes nothing.
use Rattle.std.specs.Prelude.{◌≡◌, ℕ, ◌/◌, ◌↔◌, ℤ, pos, negsuc, ◌≤ℤ◌, ◌<ℤ◌, Some, None, Ok, Err, Option, Result, ◌≢◌, unsigned_abs}
use Rattle.std.specs.Option.{ok_or}
use Rattle.std.specs.Result.{result_ok}
use Rattle.std.specs.Int.Signed.{non_neg}
use Rattle.number.specs.declared.Op.{Op}
use Rattle.number.specs.declared.Op.TheVariants.{Div}
use Rattle.number.specs.declared.Relation.{Relation}
use Rattle.number.specs.declared.Relation.TheVariants.{Less, AtMost, Equal, Unequal, Greater, AtLeast}
use Rattle.number.specs.declared.codes.UnknownCode.{UnknownCode}
use Rattle.number.specs.declared.Trap.{Trap}
use Rattle.number.specs.declared.Trap.TheVariants.{Zero, Range}
use Rattle.number.specs.Exact.{Int32, least, exact, worked}

-- x rel y
abbrev pub Related : Relation → ℤ → ℤ → Type 0
Related Less x y = x <ℤ y
Related AtMost x y = x ≤ℤ y
Related Equal x y = x ≡ y
Related Unequal x y = x ≡ y → ⊥
Related Greater x y = y <ℤ x
Related AtLeast x y = y ≤ℤ x

-- x rel y exactly if y back x
abbrev pub Mirrors : Relation → Relation → Type 0
Mirrors rel back = (x y : ℤ) → Related rel x y ↔ Related back y x

-- x other y exactly if x rel y does not hold
abbrev pub Opposes : Relation → Relation → Type 0
Opposes rel other = (x y : ℤ) → Related other x y ↔ (Related rel x y → ⊥)

-- what a code is read as: the one item with that code, or nothing where there is none
pub record Decodes {A : Type 0} (code_of : A → ℕ) (code : ℕ) (r : Option A) : Type 0 where
  pub only : (x : A) → r ≡ Some x ↔ code_of x ≡ code
  pub none : r ≡ None ↔ ((x : A) → code_of x ≢ code)

-- the same of a result: `coded` works the item out, and an error holds the code
pub record Reads {A : Type 0} (code_of : A → ℕ) (coded : ℕ → Option A) (code : ℕ) (r : Result A UnknownCode) : Type 0 where
  pub value : r ≡ ok_or (coded code) (record { 0 = code })
  pub means : Decodes code_of code (result_ok r)

-- a divisor is 0
abbrev pub DividesByZero : Op → ℤ → Type 0
DividesByZero op y = (op ≡ Div) × (y ≡ pos 0)

-- what working an operation answers: a zero trap exactly where it divides by 0; a range trap exactly where it does
-- not and the result is no integer of 32 bits; a number exactly where neither is so, and it is the result
pub record Answers (op : Op) (x y : ℤ) (r : Result ℤ Trap) : Type 0 where
  pub zero : r ≡ Err Zero ↔ DividesByZero op y
  pub range : r ≡ Err Range ↔ ((DividesByZero op y → ⊥) × (Int32 (exact op x y) → ⊥))
  pub done : (z : ℤ) → r ≡ Ok z ↔ ((DividesByZero op y → ⊥) × (Int32 z) × (z ≡ exact op x y))

-- q is x ÷ y with the fraction dropped, toward zero: its size is that of x by that of y, rounded down, and it is
-- not negative where x and y are both negative or both not, else not positive
pub record TowardZero (x y q : ℤ) : Type 0 where
  pub size : unsigned_abs q ≡ unsigned_abs x / unsigned_abs y
  pub alike : non_neg x ≡ non_neg y → pos 0 ≤ℤ q
  pub unlike : (non_neg x ≢ non_neg y) → q ≤ℤ pos 0

-- a few operations worked out
pub record Examples : Type 0 where
  pub toward_zero : worked Div (pos 7) (negsuc 1) ≡ Ok (negsuc 2)
  pub past_the_greatest : worked Div least (negsuc 0) ≡ Err Range
  pub by_zero : worked Div (pos 1) (pos 0) ≡ Err Zero
