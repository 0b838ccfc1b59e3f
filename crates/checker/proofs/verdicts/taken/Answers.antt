use Rattle.rules.proofs.Sheets.{safe-by-laws}
use Rattle.checker.proofs.Secured.{taken-safe}
use Rattle.checker.proofs.verdicts.taken.Goals as goal

pub returns : goal.returns
returns g c = record {
  value = c.judge.ensures.value;
  formed = c.judge.ensures.formed;
  safe = taken-safe _ g.D.Domain.describes g.D.Domain.ops
      (safe-by-laws g.met.D.Domain.order g.met.D.Domain.reading g.met.D.Domain.working g.met.D.Domain.narrowing)
      c.args.bytes.now (λ i. (c.type_inv.bytes i).fits) c.judge.result c.judge.ensures.value c.judge.ensures.formed;
}
