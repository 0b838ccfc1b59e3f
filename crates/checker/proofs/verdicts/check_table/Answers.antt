use Rattle.sheet.specs.Views.{seen}
use Rattle.checker.proofs.Fitting.{fitting}
use Rattle.checker.proofs.verdicts.check_table.Goals as goal

pub returns : goal.returns
returns g c =
    fitting g.D.Domain.ops (seen c.args.sheet) c.width-width.result c.check_grid.result c.width-width.ensures
    c.if-width-eq0.false c.if-sheet-entry.false c.check_grid.ensures
