use Rattle.std.proofs.Common.{sym, subst}
use Rattle.stride.specs.Rules.{Narrows}
use Rattle.stride.proofs.RuleProofs.{narrows-means}
use Rattle.stride.proofs.StrideDomain.narrow.Goals as goal

pub returns : goal.returns
returns c = record { model = c.narrowing.ensures; means = subst (Narrows c.args.a c.args.rel c.args.b) (sym c.narrowing.ensures) (narrows-means c.args.a c.args.rel c.args.b) }
