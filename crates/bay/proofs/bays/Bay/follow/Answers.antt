use Rattle.std.proofs.lemmas.Int.{to_z-of_z}
use Rattle.machine.specs.Steps.{shown}
use Rattle.bay.specs.Tables.{held, held_inputs}
use Rattle.bay.proofs.Stepping.{follows-calm}
use Rattle.bay.proofs.bays.Bay.follow.Goals as goal

pub returns-clause-told : goal.returns-clause-told
returns-clause-told c =
    let b = c.args.self.now in
    let f = c.ranges.taken in
    simp to_z-of_z at (c.step-outcome.ensures.told (held_inputs b.inputs))

pub invariant_of-self : goal.invariant_of-self
invariant_of-self c =
    let b = c.args.self.now in
    let f = c.ranges.taken in
    record {
      set = b.set;
      safe = b.safe;
      calm =
          follows-calm (held_inputs b.inputs) (held b.rows) (shown b.state) (shown c.step-outcome.new.self) c.args.taken
          c.args.row c.step-outcome.result c.requires.here b.calm
          (simp to_z-of_z at (c.step-outcome.ensures.told (held_inputs b.inputs))) c.requires.may;
    }
