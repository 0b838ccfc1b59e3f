use Rattle.std.proofs.Common.{sym, rules}
use Rattle.std.proofs.lemmas.Int.{to_z-of_z}
use Rattle.machine.specs.Runs.{start}
use Rattle.machine.specs.Steps.{shown}
use Rattle.bay.specs.Tables.{held, held_inputs, held_settings}
use Rattle.bay.proofs.Holding.{input-held, set-held}
use Rattle.bay.proofs.Stepping.{setting_kept}
use Rattle.bay.proofs.bays.Bay.change.Goals as goal

pub invariant_of-self : goal.invariant_of-self
invariant_of-self c =
    let b = c.args.self.now in
    let f = c.ranges.value in
    let h = c.in-Some.held in
    let same = set-held (held b.inputs) (held c.set.new.self) c.args.number h c.args.value (simp to_z-of_z at c.set.ensures) c.in-Some.ensures in
    let kept =
    setting_kept (held_inputs b.inputs) (held_inputs c.set.new.self) (held_settings b.inputs) (held_settings c.set.new.self)
    (held b.rows) start (shown b.state) c.args.number h.input c.args.value same.0 same.1 b.set
    (sym (input-held (held b.inputs) c.args.number h c.in-Some.ensures)) (sym (simp to_z-of_z at c.if-is_allowed.ensures)) b.safe b.calm
    in
    record { set = kept.0; safe = kept.1; calm = kept.2 }

pub returns-in-Setting-clause-value : goal.returns-in-Setting-clause-value
returns-in-Setting-clause-value c =
    let at = input-held (held c.args.self.now.inputs) c.args.number c.in-Some.held c.in-Some.ensures in
    search (rules, at)

pub returns-in-Setting-clause-after : goal.returns-in-Setting-clause-after
returns-in-Setting-clause-after c =
    let b = c.args.self.now in
    let f = c.ranges.value in
    let h = c.in-Some.held in
    let at = input-held (held b.inputs) c.args.number h c.in-Some.ensures in
    let same = set-held (held b.inputs) (held c.set.new.self) c.args.number h c.args.value (simp to_z-of_z at c.set.ensures) c.in-Some.ensures in
    let inputs = same.0 in
    let settings = same.1 in
    search (rules, at, inputs, settings)

pub returns-in-Setting-2-clause-value : goal.returns-in-Setting-2-clause-value
returns-in-Setting-2-clause-value c =
    let at = input-held (held c.args.self.now.inputs) c.args.number c.in-Some.held c.in-Some.ensures in
    search (rules, at)

pub returns-in-Setting-2-clause-after : goal.returns-in-Setting-2-clause-after
returns-in-Setting-2-clause-after c =
    let at = input-held (held c.args.self.now.inputs) c.args.number c.in-Some.held c.in-Some.ensures in
    search (rules, at)
