use Rattle.std.proofs.Common.{Option, w32, SFits, rules, subst, sym, ap, ◌∙◌}
use Rattle.std.proofs.lemmas.Int.{to_z-of_z}
use Rattle.bay.specs.Views.{view, finished, stepped, told}
use Rattle.catalog.specs.Domains.{named}
use Rattle.catalog.specs.declared.names.DomainName.{DomainName}
use Rattle.routine_bay.specs.Plays.{Performs}
use Rattle.routine_bay.specs.Records.{asked, offer_in}
use Rattle.routine_bay.specs.declared.records.Call.{Call}
use Rattle.routine_bay.proofs.Quiet.{finished-quiet, stepped-quiet, told-quiet}
use Rattle.routine_bay.proofs.plays.perform.Goals as goal

pub returns-in-Ok : goal.returns-in-Ok
returns-in-Ok c =
    subst (λ (x : Call). Performs (asked x) (view c.args.bay.now) c.offer.result (view c.offer.new.bay)) (sym c.in-Offer.is)
    (subst (λ (d : Option DomainName). Performs (offer_in d c.in-Offer.sheet.now) (view c.args.bay.now) c.offer.result (view c.offer.new.bay))
    (sym c.in-Ok.ensures ∙ ap named c.from.ensures) c.offer.ensures)

pub returns-in-Set : goal.returns-in-Set
returns-in-Set c =
    let f : SFits w32 c.in-Set.value = search rules in
    subst (λ (x : Call). Performs (asked x) (view c.args.bay.now) c.done_word-in-Set.result (view c.set.new.self)) (sym c.in-Set.is)
    (finished c.set.result, simp to_z-of_z at c.set.ensures.rule, finished-quiet c.set.result, c.done_word-in-Set.ensures)

pub returns-in-Step : goal.returns-in-Step
returns-in-Step c =
    let f : SFits w32 c.in-Step.value = search rules in
    subst (λ (x : Call). Performs (asked x) (view c.args.bay.now) c.step_word.result (view c.step.new.self)) (sym c.in-Step.is)
    (stepped c.step.result, simp to_z-of_z at c.step.ensures.rule, stepped-quiet c.step.result c.step.ensures.quiet, c.step_word.ensures)

pub returns-in-Show : goal.returns-in-Show
returns-in-Show c =
    subst (λ (x : Call). Performs (asked x) (view c.args.bay.now) c.show_word.result (view c.args.bay.now)) (sym c.in-Show.is)
    (told c.show.result, c.show.ensures.rule, told-quiet c.show.result, c.show_word.ensures)
