use Rattle.std.proofs.Common.{ℤ, sym, subst, w32, SFits, to_z, of_z, rules}
use Rattle.std.proofs.lemmas.Int.{to_z-of_z}
use Rattle.machine.specs.Steps.{MayTake}
use Rattle.bay.specs.Tables.{held_inputs}
use Rattle.bay.specs.Views.{view}
use Rattle.bay.proofs.Stepping.{may-take}
use Rattle.bay.proofs.bays.Bay.try_step.Goals as goal

pub follow-requires-clause-may : goal.follow-requires-clause-may
follow-requires-clause-may c =
    let b = c.args.self.now in
    let t = c.in_ok-taken-in-Running in
    let f : SFits w32 t.taken = search rules in
    subst (λ (z : ℤ). MayTake (held_inputs b.inputs) c.row-row.result z) (sym (to_z-of_z w32 t.taken f))
    (may-take (view b) (to_z w32 (of_z w32 c.args.reading)) t.taken c.row-row.result b.set (sym t.ensures))
