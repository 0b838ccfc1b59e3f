use Rattle.std.proofs.Common.{rules}
use Rattle.span.specs.Narrow.{narrowed-as}
use Rattle.span.proofs.interface.SpanDomain.narrow.Goals as goal

pub returns : goal.returns
returns c = narrowed-as c.args.a c.args.rel c.args.b c.narrow.result (search rules)
