use Rattle.std.proofs.Common.{subst}
use Rattle.machine.specs.declared.Row.{Row}
use Rattle.rules.specs.Faults.{Meets}
use Rattle.checker.specs.Scans.{row_right}
use Rattle.checker.proofs.grids.Entry.check_row.Goals as goal

pub returns-in-Fork : goal.returns-in-Fork
returns-in-Fork g c =
    subst (λ (row : Row). Meets c.check_both.result (row_right g.D.Domain.ops c.args.self.now.grid.now c.args.self.now.place row))
    c.in-Fork.ensures.value c.check_both.ensures
