use Rattle.sheet.specs.Views.{seen_in}
use Rattle.sheet.proofs.Accepted.{means}
use Rattle.sheet.proofs.views.Sheet.read.Goals as goal

pub returns-clause-meaning : goal.returns-clause-meaning
returns-clause-meaning c = means c.args.bytes.now (λ i. (c.type_inv.bytes i).fits) (seen_in c.checked.result) c.checked.ensures
