-- A domain as one value: its type, its meaning and its operations. Assumes nothing.
use Rattle.std.specs.Prelude.{ℤ}
use Rattle.domain.specs.Model.{Ops}
use Rattle.domain.specs.Laws.{Order, Reading, Working, Narrowing}

pub record Dom : Type 1 where
  pub carrier : Type 0
  pub describes : carrier → ℤ → Type 0
  pub ops : Ops carrier

-- a domain that keeps the four laws
pub record Lawful (d : Dom) : Type 0 where
  pub order : Order d.describes d.ops
  pub reading : Reading d.ops
  pub working : Working d.describes d.ops
  pub narrowing : Narrowing d.describes d.ops

-- the meaning and the operations of any type, as such a value
abbrev pub as_dom : (V : Type 0) → (V → ℤ → Type 0) → Ops V → Dom
as_dom V describes ops = record { carrier = V; describes = describes; ops = ops }
