-- IMP: expressions over sets of integers, what they evaluate to, and the statements that rows stand for.
-- Everything is over the unbounded integers. Assumes nothing.
use Rattle.std.specs.Prelude.{◌≡◌, ℕ, Bool, true, false, List, ℤ, pos, slice_index_or}
use Rattle.number.specs.Exact.{exact, eq_z, zero_trap}
use Rattle.number.specs.declared.Op.{Op}
use Rattle.number.specs.declared.Op.TheVariants.{IsLess, IsAtMost, IsEqual, IsUnequal}
use Rattle.number.specs.declared.Relation.{Relation}
use Rattle.number.specs.declared.Relation.TheVariants.{Less, AtMost, Equal, Unequal, Greater, AtLeast}
use Rattle.machine.specs.Inputs.{may_give}
use Rattle.machine.specs.declared.Input.{Input}
use Rattle.machine.specs.declared.Row.{Row}
use Rattle.machine.specs.declared.Row.TheVariants.{End, Put, Take, Work, Fork}

-- an expression: a set of integers, a variable, or an operation on two expressions
pub data Exp : Type 0 where
  among : (ℤ → Bool) → Exp
  var : ℕ → Exp
  apply : Op → Exp → Exp → Exp

-- the value of a variable: locals map variables to integers
abbrev pub look_up : List ℤ → ℕ → ℤ
look_up locals x = slice_index_or locals x (pos 0)

-- e evaluates to n: a set to any of its elements, a variable to its value, an operation to its result on
-- what its operands evaluate to; a quotient by 0 has no value
pub data Eval (locals : List ℤ) : Exp → ℤ → Type 0 where
  pick : {set : ℤ → Bool} {n : ℤ} → set n ≡ true → Eval locals (among set) n
  look : {x : ℕ} {n : ℤ} → look_up locals x ≡ n → Eval locals (var x) n
  work : {op : Op} {e f : Exp} {m n r : ℤ} → Eval locals e m → Eval locals f n → zero_trap op m n ≡ false → exact op m n ≡ r → Eval locals (apply op e f) r

-- e divides by 0, itself or in an operand
pub data DividesByZero (locals : List ℤ) : Exp → Type 0 where
  here : {op : Op} {e f : Exp} {m n : ℤ} → Eval locals e m → Eval locals f n → zero_trap op m n ≡ true → DividesByZero locals (apply op e f)
  left : {op : Op} {e f : Exp} → DividesByZero locals e → DividesByZero locals (apply op e f)
  right : {op : Op} {e f : Exp} → DividesByZero locals f → DividesByZero locals (apply op e f)

-- a statement with the places it goes on at, which stand for the continuation stack: an assignment, a
-- condition (of an if or a while) with its two ways on, or the end of the program
pub data Stmt : Type 0 where
  assign : ℕ → Exp → ℕ → Stmt
  branch : Exp → ℕ → ℕ → Stmt
  done : Stmt

-- the condition of a fork; > and ≥ are < and ≤ with their sides exchanged
abbrev pub condition : Relation → ℕ → ℕ → Exp
condition Less a b = apply IsLess (var a) (var b)
condition AtMost a b = apply IsAtMost (var a) (var b)
condition Equal a b = apply IsEqual (var a) (var b)
condition Unequal a b = apply IsUnequal (var a) (var b)
condition Greater a b = apply IsLess (var b) (var a)
condition AtLeast a b = apply IsAtMost (var b) (var a)

-- the statement that a row stands for
abbrev pub means : List Input → Row → Stmt
means inputs End = done
means inputs (Put x n t) = assign x (among (eq_z n)) t
means inputs (Take x k t) = assign x (among (may_give inputs k)) t
means inputs (Work x op a b t) = assign x (apply op (var a) (var b)) t
means inputs (Fork rel a b t u) = branch (condition rel a b) t u
