use Rattle.std.proofs.Common.{ℕ, sym, subst}
use Rattle.routine_bay.specs.Named.{Tells}
use Rattle.catalog.specs.declared.names.DomainName.TheVariants.{Spans}
use Rattle.routine_bay.proofs.Naming.{safe-of}
use Rattle.routine_bay.proofs.Telling.{tells}
use Rattle.routine_bay.proofs.routine_bay_verdict_in_spans.Goals as goal

pub returns : goal.returns
returns c =
    subst (λ (word : ℕ). Tells Spans c.args.sheet.now word) (sym c.verdict_word.ensures)
    (tells Spans c.args.sheet.now c.verdict.result c.verdict.ensures.value (safe-of Spans c.args.sheet.now c.verdict.result c.verdict.ensures.safe))
