use Rattle.std.proofs.Common.{refl, ◌∙◌}
use Rattle.bay.specs.Views.{offered}
use Rattle.routine_bay.proofs.Naming.{offered-word}
use Rattle.routine_bay.proofs.Quiet.{offered-quiet}
use Rattle.routine_bay.proofs.named.OfferingInDomain.run.Goals as goal

pub returns : goal.returns
returns g c = ((offered c.offer.result, c.offer.ensures.rule, offered-quiet c.offer.result, c.verdict_word.ensures ∙ offered-word c.offer.result), refl)
