-- The signs of the operations and of the relations, and the words of the traps, as the bytes of a text. Assumes nothing.
use Rattle.std.specs.Prelude.{◌≡◌, ℕ, List, Result, ◌≢◌, MatchResult, codes}
use Rattle.number.specs.declared.Op.{Op}
use Rattle.number.specs.declared.Op.TheVariants.{Add, Sub, Mul, Div, IsLess, IsAtMost, IsEqual, IsUnequal}
use Rattle.number.specs.declared.Relation.{Relation}
use Rattle.number.specs.declared.Relation.TheVariants.{Less, AtMost, Equal, Unequal, Greater, AtLeast}
use Rattle.number.specs.declared.Trap.{Trap}
use Rattle.number.specs.declared.Trap.TheVariants.{Zero, Range}

abbrev pub op_sign : Op → List ℕ
op_sign Add = codes "+"
op_sign Sub = codes "-"
op_sign Mul = codes "*"
op_sign Div = codes "/"
op_sign IsLess = codes "<"
op_sign IsAtMost = codes "<="
op_sign IsEqual = codes "="
op_sign IsUnequal = codes "!="

abbrev pub relation_sign : Relation → List ℕ
relation_sign Less = codes "<"
relation_sign AtMost = codes "<="
relation_sign Equal = codes "="
relation_sign Unequal = codes "!="
relation_sign Greater = codes ">"
relation_sign AtLeast = codes ">="

abbrev pub trap_word : Trap → List ℕ
trap_word Zero = codes "zero"
trap_word Range = codes "range"

-- what a text is read as: the item whose sign it is, or an error where it is the sign of none
abbrev pub SignRead : {A E : Type 0} → (A → List ℕ) → List ℕ → Result A E → Type 0
SignRead {A} sign_of text r = MatchResult r (λ x. text ≡ sign_of x) (λ _. (x : A) → text ≢ sign_of x)
