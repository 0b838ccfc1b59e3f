use Rattle.std.proofs.Common.{sym, subst}
use Rattle.stride.specs.Rules.{Works}
use Rattle.stride.proofs.RuleProofs.{works-means}
use Rattle.stride.proofs.StrideDomain.work.Goals as goal

pub returns : goal.returns
returns c = record { model = c.working.ensures; means = subst (Works c.args.op c.args.a c.args.b) (sym c.working.ensures) (works-means c.args.op c.args.a c.args.b) }
