use Rattle.checker.proofs.Secured.{sheet-safe}
use Rattle.checker.proofs.verdicts.verdict.Goals as goal

pub returns-clause-safe : goal.returns-clause-safe
returns-clause-safe g c =
    sheet-safe _ g.D.Domain.describes g.D.Domain.ops c.args.bytes.now c.in_ok-sheet.sheet
    c.in_ok-sheet.ensures.formed c.in_ok-sheet.ensures.safe
