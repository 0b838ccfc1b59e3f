use Rattle.std.proofs.Common.{sym, ◌∙◌}
use Rattle.sheet.specs.Views.{seen}
use Rattle.checker.proofs.Reading.{input_here}
use Rattle.checker.proofs.routes.input_on.Goals as goal

pub returns : goal.returns
returns c = c.input.ensures.stated ∙ sym (input_here (seen c.args.sheet.now) c.args.number c.requires)
