-- What the tables of a bay hold, as plain lists. Assumes nothing.
use Rattle.std.specs.Prelude.{ℕ, List, take, map, ℤ}
use Rattle.machine.specs.declared.Input.{Input}
use Rattle.bay.specs.declared.inputs.HeldInput.{HeldInput}
use Rattle.bay.specs.declared.table.Table.{Table}

abbrev pub held : {A : Type 0} {n : ℕ} → Table A n → List A
held t = take t.count t.items

abbrev pub held_inputs : {n : ℕ} → Table HeldInput n → List Input
held_inputs t = map (λ h. h.input) (held t)

abbrev pub held_settings : {n : ℕ} → Table HeldInput n → List ℤ
held_settings t = map (λ h. h.setting) (held t)
