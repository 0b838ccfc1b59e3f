use Rattle.std.proofs.lemmas.Result.{err_from_is_err_and}
use Rattle.scan.proofs.Scans.{up_next}
use Rattle.checker.specs.Scans.{cell_right}
use Rattle.checker.specs.Grids.{shown}
use Rattle.checker.proofs.Meeting.{exits, meets-ok, meets-stop}
use Rattle.checker.proofs.grids.Entry.check_cells.Goals as goal

pub returns-in_err-check_cell : goal.returns-in_err-check_cell
returns-in_err-check_cell g c =
    let f = cell_right g.D.Domain.ops (shown c.args.self.now.grid.now) c.args.self.now.place in
    let p = err_from_is_err_and c.from_residual.result c.from_residual.ensures.1 in
    exits c.from_residual.result p.0 _ p.1 p.2 _
    (meets-stop f c.loop-variable.variable _ _ c.loop-variable.invariant c.in_err-check_cell.ensures c.loop-variable-test.true)

pub loop-variable-preserved : goal.loop-variable-preserved
loop-variable-preserved g c =
    let f = cell_right g.D.Domain.ops (shown c.args.self.now.grid.now) c.args.self.now.place in
    up_next f c.loop-variable.variable c.loop-variable.invariant (meets-ok tt (f c.loop-variable.variable) c.in_ok-check_cell.ensures)
