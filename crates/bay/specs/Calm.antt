-- What every bay keeps to, as facts with one proof at most. Assumes nothing.
use Rattle.std.specs.Prelude.{Bool, true, false, ◌&&◌, List, [], ◌∷◌, ℤ}
use Rattle.number.specs.declared.Trap.{Trap}
use Rattle.machine.specs.Inputs.{allows}
use Rattle.machine.specs.Runs.{Spot, Trapped, Reaches}
use Rattle.machine.specs.declared.Input.{Input}
use Rattle.machine.specs.declared.Row.{Row}

-- from a state, a routine reaches one at which its step traps
pub record CanTrap (inputs : List Input) (rows : List Row) (from : Spot) : Type 0 where
  pub state : Spot
  pub reached : Reaches inputs rows from state
  pub trap : Trap
  pub traps : Trapped inputs rows state trap

-- each input has a setting of its set
abbrev pub settled : List Input → List ℤ → Bool
settled [] zs = true
settled (i ∷ is) [] = false
settled (i ∷ is) (z ∷ zs) = allows i z && settled is zs
