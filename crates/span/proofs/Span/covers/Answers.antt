use Rattle.std.proofs.Common.{rules}
use Rattle.span.specs.Covering.{covers-as}
use Rattle.span.proofs.Span.covers.Goals as goal

pub returns-then-self-other : goal.returns-then-self-other
returns-then-self-other c = covers-as c.args.self c.args.other _ (search rules)
