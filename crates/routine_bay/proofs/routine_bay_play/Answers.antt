use Rattle.std.proofs.Common.{refl, arith}
use Rattle.bay.specs.Views.{view}
use Rattle.routine_bay.proofs.Playing.{none-at, more-at, others-at, full_at}
use Rattle.routine_bay.proofs.routine_bay_play.Goals as goal

pub loop-count-init : goal.loop-count-init
loop-count-init c = (none-at c.args.calls.now (view c.new-bay.result) c.new-bay.ensures, refl)

pub loop-count-preserved : goal.loop-count-preserved
loop-count-preserved c =
    let l = c.loop-count in (
      more-at c.args.calls.now (view l.bay) (view c.perform.new.bay) l.rest.now l.answers c.in-Some.behind.now
          l.count c.perform.result c.in-Some.call l.invariant.0 c.in-Some.ensures
          c.perform.ensures (omega (arith, c.loop-count-test.true, l.auto.answers)),
      others-at l.answers c.args.answers.now l.count c.perform.result l.invariant.1,
    )

pub returns : goal.returns
returns c =
    let l = c.loop-count in
    full_at c.args.calls.now (view l.bay) l.rest.now l.answers c.args.answers.now l.count l.invariant.0 l.auto.answers c.loop-count-test.false
