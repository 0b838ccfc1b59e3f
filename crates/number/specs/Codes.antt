-- The codes of the operations and of the relations. Assumes nothing.
use Rattle.std.specs.Prelude.{ℕ, zero, suc, List, [], ◌∷◌, Some, None, Option}
use Rattle.number.specs.declared.Op.{Op}
use Rattle.number.specs.declared.Op.TheVariants.{Add, Sub, Mul, Div, IsLess, IsAtMost, IsEqual, IsUnequal}
use Rattle.number.specs.declared.Relation.{Relation}
use Rattle.number.specs.declared.Relation.TheVariants.{Less, AtMost, Equal, Unequal, Greater, AtLeast}

-- what stands at a place of a list, if the list reaches that far
abbrev pub nth : {A : Type 0} → List A → ℕ → Option A
nth [] i = None
nth (x ∷ xs) zero = Some x
nth (x ∷ xs) (suc i) = nth xs i

-- the operations in the order of their codes 0 to 7
abbrev pub ops : List Op
ops = Add ∷ Sub ∷ Mul ∷ Div ∷ IsLess ∷ IsAtMost ∷ IsEqual ∷ IsUnequal ∷ []

-- the relations in the order of their codes 0 to 5
abbrev pub relations : List Relation
relations = Less ∷ AtMost ∷ Equal ∷ Unequal ∷ Greater ∷ AtLeast ∷ []

abbrev pub op_coded : ℕ → Option Op
op_coded code = nth ops code

abbrev pub relation_coded : ℕ → Option Relation
relation_coded code = nth relations code

-- the code of each
abbrev pub op_code : Op → ℕ
op_code Add = 0
op_code Sub = 1
op_code Mul = 2
op_code Div = 3
op_code IsLess = 4
op_code IsAtMost = 5
op_code IsEqual = 6
op_code IsUnequal = 7

abbrev pub relation_code : Relation → ℕ
relation_code Less = 0
relation_code AtMost = 1
relation_code Equal = 2
relation_code Unequal = 3
relation_code Greater = 4
relation_code AtLeast = 5
