-- The ways out of a place, and what the variables may be on each. Assumes nothing.
use Rattle.std.specs.Prelude.{ℕ, zero, suc, cond, List, pos, Some, None, Option, ◌==◌, slice_index_or}
use Rattle.number.specs.Exact.{mirrored, opposite}
use Rattle.number.specs.declared.Relation.{Relation}
use Rattle.machine.specs.declared.Input.{Input}
use Rattle.machine.specs.declared.InputKind.TheVariants.{Reading}
use Rattle.machine.specs.declared.Row.{Row}
use Rattle.machine.specs.declared.Row.TheVariants.{End, Put, Take, Work, Fork}
use Rattle.domain.specs.Model.{Ops}

-- a way is passed over, or goes to a place with a value for each variable
pub data Way (V : Type 0) : Type 0 where
  pass : Way V
  go : ℕ → (ℕ → V) → Way V

-- the values with that of one variable changed
abbrev pub changed : {V : Type 0} → (ℕ → V) → ℕ → V → ℕ → V
changed cells x v y = cond (y == x) v (cells y)

-- input k of a routine
abbrev pub input_on : List Input → ℕ → Input
input_on inputs k = slice_index_or inputs k (record { kind = Reading; lo = pos 0; hi = pos 0 })

-- how many ways lead out of a row: a fork has two, an end none
abbrev pub ways : List Input → Row → ℕ
ways inputs End = 0
ways inputs (Put x n t) = 1
ways inputs (Take x k t) = 1
ways inputs (Work x op a b t) = 1
ways inputs (Fork rel a b t u) = 2

module _ {V : Type 0} (o : Ops V) where
  -- a way is passed over where either operand is narrowed to none
  abbrev pub meeting : ℕ → (ℕ → V) → ℕ → ℕ → Option V → Option V → Way V
  meeting t cells a b None w = pass
  meeting t cells a b (Some v) None = pass
  meeting t cells a b (Some v) (Some w) = go t (changed (changed cells a v) b w)

  -- a way of a fork on which a rel b holds: a is narrowed by rel and b, b by the mirrored relation and a, both as
  -- they are in the entry; neither where a and b are one variable
  abbrev pub fork_way : (ℕ → V) → Relation → ℕ → ℕ → ℕ → Way V
  fork_way cells rel a b t =
      cond (a == b) (go t cells)
      (meeting t cells a b (o.narrows (cells a) rel (cells b)) (o.narrows (cells b) (mirrored rel) (cells a)))

  -- way w out of a row, from the cells of its entry; way 1 of a fork has the opposite relation
  abbrev pub way : List Input → Row → (ℕ → V) → ℕ → Way V
  way inputs End cells w = pass
  way inputs (Put x n t) cells w = go t (changed cells x (o.value n n))
  way inputs (Take x k t) cells w = go t (changed cells x (o.value (input_on inputs k).lo (input_on inputs k).hi))
  way inputs (Work x op a b t) cells w = go t (changed cells x (o.works op (cells a) (cells b)).0)
  way inputs (Fork rel a b t u) cells zero = fork_way cells rel a b t
  way inputs (Fork rel a b t u) cells (suc w) = fork_way cells (opposite rel) a b u
