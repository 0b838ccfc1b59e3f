use Rattle.std.proofs.Common.{ℕ, Option, sym, subst₂}
use Rattle.catalog.specs.declared.names.DomainName.{DomainName}
use Rattle.routine_bay.specs.Named.{Answered}
use Rattle.routine_bay.proofs.Telling.{tells}
use Rattle.routine_bay.proofs.routine_bay_verdict.Goals as goal

pub returns-in-Ok : goal.returns-in-Ok
returns-in-Ok c =
    subst₂ (λ (d : Option DomainName) (word : ℕ). Answered d c.args.sheet.now word) (sym c.in-Ok.ensures) (sym c.verdict_word.ensures)
    (tells c.in-Ok.name c.args.sheet.now c.judge.result c.judge.ensures.value c.judge.ensures.safe)
