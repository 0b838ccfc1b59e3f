-- No trap is reached: from an empty routine, and one step on. Assumes nothing.
use Rattle.std.proofs.Common.{◌≡◌, List, [], sym, subst}
use Rattle.machine.specs.Runs.{Spot}
use Rattle.machine.specs.declared.Input.{Input}
use Rattle.machine.specs.declared.Row.{Row}
use Rattle.bay.specs.Calm.{CanTrap}
use Rattle.bay.proofs.Kept.{no_row}

pub none-traps : (inputs : List Input) (rows : List Row) (from : Spot) → rows ≡ [] → CanTrap inputs rows from → ⊥
none-traps inputs rows from e t =
    let P : List Row → Type 0 = λ rs. CanTrap inputs rs from → ⊥ in
    subst P (sym e) (λ c. no_row inputs c.state c.trap c.traps) t
