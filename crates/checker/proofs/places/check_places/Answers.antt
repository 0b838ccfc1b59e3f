use Rattle.std.proofs.Common.{◌<◌, arith}
use Rattle.std.proofs.lemmas.Result.{err_from_is_err_and}
use Rattle.scan.proofs.Scans.{up_next}
use Rattle.checker.specs.Scans.{place_checked}
use Rattle.checker.proofs.Meeting.{exits, meets-end, meets-ok, meets-stop}
use Rattle.checker.proofs.places.check_places.Goals as goal

pub returns-in_err-check_present : goal.returns-in_err-check_present
returns-in_err-check_present g c =
    let f = place_checked g.D.Domain.ops c.args.grid.now in
    let p = err_from_is_err_and c.from_residual.result c.from_residual.ensures.1 in
    let places = c.args.grid.now.sheet.places in
    let within : c.loop-place.place < places = omega (arith, c.loop-place-test.true) in
    exits c.from_residual.result p.0 _ p.1 p.2 _
    (meets-stop f c.loop-place.place places _ c.loop-place.invariant c.in_err-check_present.ensures within)

pub loop-place-preserved : goal.loop-place-preserved
loop-place-preserved g c =
    let f = place_checked g.D.Domain.ops c.args.grid.now in
    up_next f c.loop-place.place c.loop-place.invariant (meets-ok tt (f c.loop-place.place) c.in_ok-check_present.ensures)

pub returns : goal.returns
returns g c =
    meets-end (place_checked g.D.Domain.ops c.args.grid.now) c.loop-place.place c.args.grid.now.sheet.places
    c.loop-place.invariant (omega arith)
