use Rattle.std.proofs.lemmas.Result.{err_from_is_err_and}
use Rattle.scan.proofs.Scans.{up_next}
use Rattle.rules.specs.Tables.{entry_right}
use Rattle.checker.specs.Grids.{shown}
use Rattle.checker.proofs.Meeting.{exits, meets-ok, meets-stop}
use Rattle.checker.proofs.entries.check_entries.Goals as goal

pub returns-in_err-check : goal.returns-in_err-check
returns-in_err-check g c =
    let f = entry_right g.D.Domain.ops (shown c.args.grid.now) in
    let p = err_from_is_err_and c.from_residual.result c.from_residual.ensures.1 in
    exits c.from_residual.result p.0 _ p.1 p.2 _
    (meets-stop f c.loop-place.place _ _ c.loop-place.invariant c.in_err-check.ensures c.loop-place-test.true)

pub loop-place-preserved : goal.loop-place-preserved
loop-place-preserved g c =
    let f = entry_right g.D.Domain.ops (shown c.args.grid.now) in
    up_next f c.loop-place.place c.loop-place.invariant (meets-ok tt (f c.loop-place.place) c.in_ok-check.ensures)
