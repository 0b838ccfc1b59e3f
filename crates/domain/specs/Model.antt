-- The operations of a domain as plain functions. Assumes nothing.
use Rattle.std.specs.Prelude.{ℕ, Bool, List, ℤ, Option}
use Rattle.number.specs.declared.Op.{Op}
use Rattle.number.specs.declared.Relation.{Relation}

-- A domain is a type V of values, each of which stands for a set of integers.
-- A cell is the bytes that hold one value in a table; a blank byte is one of the bytes that hold "anything".
pub record Ops (V : Type 0) : Type 0 where
  -- how many bytes a cell has; 0 where no cell can hold a value
  pub width : ℕ
  -- the blank byte at an index of the cell
  pub blank : ℕ → ℕ
  -- the value that a cell holds, if it holds one
  pub reads : List ℕ → Option V
  -- the value that stands for every integer
  pub anything : V
  -- a value for the integers from the first to the second
  pub value : ℤ → ℤ → V
  -- the first stands for all that the second stands for
  pub covers : V → V → Bool
  -- what an operation gives on two values, whether it may divide by 0, whether it may leave the 32 bits
  pub works : Op → V → V → V × Bool × Bool
  -- what is left of the first where it stands in the relation to the second; none where nothing is left
  pub narrows : V → Relation → V → Option V
