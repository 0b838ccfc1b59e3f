use Rattle.std.proofs.Common.{w32, to_z, of_z}
use Rattle.std.proofs.lemmas.Int.{to_z-of_z}
use Rattle.bay.specs.Views.{view}
use Rattle.bay.proofs.Rules.{set_clauses}
use Rattle.bay.proofs.bays.Bay.set.Goals as goal

pub returns-in_default : goal.returns-in_default
returns-in_default c =
    let p = set_clauses (view c.args.self.now) (view c.change.new.self) c.args.number c.args.value (to_z w32 (of_z w32 c.args.value))
    c.change.result (to_z-of_z w32 c.args.value c.ranges.value) c.in_default.not-Empty c.change.ensures.value c.change.ensures.after in
    record { value = p.0; after = p.1; rule = p.2 }
