use Rattle.span.proofs.Worked as worked
use Rattle.span.proofs.interface.examples.Goals as goal

pub returns : goal.returns
returns c = record { product = cc (worked.examples).product; hole = cc (worked.examples).hole; table = worked.examples }
