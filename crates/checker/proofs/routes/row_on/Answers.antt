use Rattle.std.proofs.Common.{sym, ◌∙◌}
use Rattle.sheet.specs.Views.{seen}
use Rattle.checker.proofs.Reading.{row_here}
use Rattle.checker.proofs.routes.row_on.Goals as goal

pub returns-clause-value : goal.returns-clause-value
returns-clause-value c = c.row.ensures.stated ∙ sym (row_here (seen c.args.sheet.now) c.args.place c.requires)
