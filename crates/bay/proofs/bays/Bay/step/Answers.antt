use Rattle.std.proofs.Common.{w32, to_z, of_z}
use Rattle.std.proofs.lemmas.Int.{to_z-of_z}
use Rattle.bay.specs.Views.{view}
use Rattle.bay.proofs.Steps.{step-clauses}
use Rattle.bay.proofs.bays.Bay.step.Goals as goal

pub returns : goal.returns
returns c =
    let b = c.args.self.now in
    let p = step-clauses (view b) (view c.try_step.new.self) c.args.reading (to_z w32 (of_z w32 c.args.reading)) c.try_step.result
    (to_z-of_z w32 c.args.reading c.ranges.reading) b.set b.calm
    c.try_step.ensures.value c.try_step.ensures.after c.try_step.ensures.told in
    record { value = p.0; after = p.1; rule = p.2; quiet = p.3 }
