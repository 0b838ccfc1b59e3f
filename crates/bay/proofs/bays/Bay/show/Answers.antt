use Rattle.std.proofs.Common.{rules, refl, ap, ◌≡◌, ◌∙◌, ℤ, Ok, Err, w32, to_z, of_z}
use Rattle.std.proofs.lemmas.Int.{to_z-of_z}
use Rattle.bay.specs.declared.Shown.{Shown}
use Rattle.sheet.specs.declared.refusals.Refusal.{Refusal}
use Rattle.std.specs.Prelude.{Result}
use Rattle.bay.specs.Calls
use Rattle.bay.specs.Model.{show_of}
use Rattle.bay.specs.Views.{view, told}
use Rattle.bay.proofs.Rules.{as-case, show-happens}
use Rattle.sheet.specs.declared.refusals.Refusal.TheVariants.{NoVariable}
use Rattle.bay.proofs.bays.Bay.show.Goals as goal

pub returns-then-variable-self-clause-rule : goal.returns-then-variable-self-clause-rule
returns-then-variable-self-clause-rule c =
    let v = view c.args.self.now in
    let e : Err NoVariable ≡ show_of c.args.variable v = search rules in
    as-case v v (Calls.show c.args.variable) _ _ _ (ap told e) refl (show-happens v c.args.variable)

pub returns-clause-rule : goal.returns-clause-rule
returns-clause-rule c =
    let v = view c.args.self.now in
    let shows : ℤ → Result Shown Refusal = (λ z. Ok (record { running = c.eq-2.result; place = c.place.result; value = z })) in
    let e : shows c.value.result ≡ show_of c.args.variable v = search rules in
    as-case v v (Calls.show c.args.variable) _ _ _ (ap told (ap shows (to_z-of_z w32 c.value.result (search rules)) ∙ e)) refl (show-happens v c.args.variable)
