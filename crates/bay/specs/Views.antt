-- A bay as the model has it. Assumes nothing.
use Rattle.std.specs.Prelude.{◌≡◌, ℕ, ℤ, Ok, Err, Result}
use Rattle.machine.specs.Runs.{Spot}
use Rattle.machine.specs.Steps.{shown, Told}
use Rattle.machine.specs.declared.states.Outcome.{Outcome}
use Rattle.machine.specs.declared.states.Outcome.TheVariants.{At, Ended, Trapped}
use Rattle.sheet.specs.declared.refusals.Refusal.{Refusal}
use Rattle.bay.specs.Calls
use Rattle.bay.specs.Calls.{Answer}
use Rattle.bay.specs.Model.{View, row_now, taken_by}
use Rattle.bay.specs.Tables.{held, held_inputs, held_settings}
use Rattle.bay.specs.declared.Shown.{Shown}
use Rattle.bay.specs.declared.bays.Bay.{Bay}

abbrev pub view : Bay → View
view b = record {
  mode = b.mode;
  variables = b.variables;
  inputs = held_inputs b.inputs;
  settings = held_settings b.inputs;
  rows = held b.rows;
  state = shown b.state;
}

-- the answers of the calls, as the rules have them
abbrev pub offered : Result ℕ Refusal → Answer
offered (Ok n) = Calls.taken n
offered (Err r) = Calls.refused r

abbrev pub finished : Result (Unit {0}) Refusal → Answer
finished (Ok x) = Calls.done
finished (Err r) = Calls.refused r

abbrev pub came : Outcome → Answer
came (At p) = Calls.moved p
came Ended = Calls.ended
came (Trapped t p) = Calls.trapped t p

abbrev pub stepped : Result Outcome Refusal → Answer
stepped (Ok o) = came o
stepped (Err r) = Calls.refused r

abbrev pub told : Result Shown Refusal → Answer
told (Ok s) = Calls.shown s.running s.place s.value
told (Err r) = Calls.refused r

-- an outcome is no trap
abbrev pub NoTrap : Outcome → Type 0
NoTrap (At p) = Unit {0}
NoTrap Ended = Unit {0}
NoTrap (Trapped t p) = ⊥

-- what a step that was made came to, by the rules, where it took c
abbrev pub ToldOf : ℤ → View → Outcome → Spot → Type 0
ToldOf z v o s = (c : ℤ) × (taken_by v z (row_now v) ≡ Ok c) × Told v.inputs (row_now v) v.state c o s
