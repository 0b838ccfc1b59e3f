use Rattle.std.proofs.Common.{◌<◌, arith}
use Rattle.std.proofs.lemmas.Result.{err_from_is_err_and}
use Rattle.scan.specs.Scan.{passed}
use Rattle.scan.proofs.Scans.{up_next, up-stops, passed_ok, passed-err}
use Rattle.sheet.specs.Inputs.{input_at}
use Rattle.sheet.specs.Views.{laid}
use Rattle.sheet.proofs.views.Layout.check_inputs.Goals as goal

pub returns-in_err-input : goal.returns-in_err-input
returns-in_err-input c =
    let s = laid c.args.self.now in
    let p = err_from_is_err_and c.from_residual.result c.from_residual.ensures.1 in
    let stops = passed-err (input_at s c.loop-number.number) _ c.in_err-input.ensures in
    let within : c.loop-number.number < s.input_count = omega (arith, c.loop-number-test.true) in
    rw (p.1, p.2) (up-stops (λ i. passed (input_at s i)) c.loop-number.number s.input_count _ c.loop-number.invariant stops within)

pub loop-number-preserved : goal.loop-number-preserved
loop-number-preserved c =
    let s = laid c.args.self.now in
    let here = passed_ok (input_at s c.loop-number.number) _ c.in_ok-input.ensures in
    up_next (λ i. passed (input_at s i)) c.loop-number.number c.loop-number.invariant here
