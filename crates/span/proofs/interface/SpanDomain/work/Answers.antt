use Rattle.std.proofs.Common.{rules}
use Rattle.span.specs.Results.{worked-as}
use Rattle.span.proofs.interface.SpanDomain.work.Goals as goal

pub returns : goal.returns
returns c = worked-as c.args.op c.args.a c.args.b c.work.result (search rules)
