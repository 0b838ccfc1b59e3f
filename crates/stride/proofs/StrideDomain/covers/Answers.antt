use Rattle.std.proofs.Common.{Decides, sym, subst}
use Rattle.stride.specs.Rules.{NoMore}
use Rattle.stride.proofs.RuleProofs.{covers-exactly}
use Rattle.stride.proofs.StrideDomain.covers.Goals as goal

pub returns : goal.returns
returns c = record { model = c.covering.ensures; means = subst (λ t. Decides t (NoMore c.args.b c.args.a)) (sym c.covering.ensures) (covers-exactly c.args.a c.args.b) }
