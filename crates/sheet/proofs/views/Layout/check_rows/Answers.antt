use Rattle.std.proofs.Common.{◌<◌, arith}
use Rattle.std.proofs.lemmas.Result.{err_from_is_err_and}
use Rattle.scan.specs.Scan.{passed}
use Rattle.scan.proofs.Scans.{up_next, up-stops, passed_ok, passed-err}
use Rattle.sheet.specs.Rows.{row_at}
use Rattle.sheet.specs.Views.{laid}
use Rattle.sheet.proofs.views.Layout.check_rows.Goals as goal

pub returns-in_err-row : goal.returns-in_err-row
returns-in_err-row c =
    let s = laid c.args.self.now in
    let p = err_from_is_err_and c.from_residual.result c.from_residual.ensures.1 in
    let stops = passed-err (row_at s c.loop-place.place) _ c.in_err-row.ensures in
    let within : c.loop-place.place < s.places = omega (arith, c.loop-place-test.true) in
    rw (p.1, p.2) (up-stops (λ i. passed (row_at s i)) c.loop-place.place s.places _ c.loop-place.invariant stops within)

pub loop-place-preserved : goal.loop-place-preserved
loop-place-preserved c =
    let s = laid c.args.self.now in
    let here = passed_ok (row_at s c.loop-place.place) _ c.in_ok-row.ensures in
    up_next (λ i. passed (row_at s i)) c.loop-place.place c.loop-place.invariant here
