use Rattle.std.proofs.Common.{ap₂}
use Rattle.catalog.proofs.Worked.{examples}
use Rattle.catalog.proofs.examples_hold.Goals as goal

pub returns : goal.returns
returns c = record { widths = ap₂ (λ x y. (x, y)) c.width.ensures c.width-2.ensures; cases = examples }
