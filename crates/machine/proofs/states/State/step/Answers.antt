use Rattle.std.proofs.Common.{◌≡◌, ℤ, sym, ap, ◌∙◌, subst, w32, SFits, to_z, of_z, rules}
use Rattle.std.proofs.lemmas.Int.{to_z-of_z}
use Rattle.number.proofs.Order.{int32-of-width}
use Rattle.machine.specs.Imp.{look_up}
use Rattle.machine.specs.Runs.{Spot}
use Rattle.machine.specs.Steps.{operands, act_of, act_at, shown, placed, changed, outcome_of, after_step, ActFits, Told}
use Rattle.machine.specs.declared.Row.{Row}
use Rattle.machine.proofs.Tells.{told}
use Rattle.machine.proofs.states.State.step.Goals as goal

ap₃ : (row : Row) {a b c x y z : ℤ} → a ≡ x → b ≡ y → c ≡ z → act_of row a b c ≡ act_of row x y z
ap₃ row p q r = λ i. act_of row (p i) (q i) (r i)

pub returns : goal.returns
returns c =
    let s : Spot = shown c.args.self.now in
    let fa : SFits w32 c.value-a.result = search rules in
    let fb : SFits w32 c.value-b.result = search rules in
    let left : c.from.result ≡ (operands c.args.row).0 = c.from.ensures ∙ ap (λ p. p.0) c.operands-left.ensures in
    let right : c.from-2.result ≡ (operands c.args.row).1 = c.from-2.ensures ∙ ap (λ p. p.1) c.operands-left.ensures in
    let a : to_z w32 (of_z w32 c.value-a.result) ≡ look_up s.locals (operands c.args.row).0 = to_z-of_z w32 c.value-a.result fa ∙ c.value-a.ensures ∙ ap (look_up s.locals) left in
    let b : to_z w32 (of_z w32 c.value-b.result) ≡ look_up s.locals (operands c.args.row).1 = to_z-of_z w32 c.value-b.result fb ∙ c.value-b.ensures ∙ ap (look_up s.locals) right in
    let taken : to_z w32 (of_z w32 c.args.taken) ≡ c.args.taken = to_z-of_z w32 c.args.taken c.ranges.taken in
    let acted : c.act.result ≡ act_at c.args.row s.locals c.args.taken = c.act.ensures ∙ ap₃ c.args.row a b taken in
    let outcome : c.follow.result ≡ outcome_of c.args.row s c.args.taken = c.follow.ensures.outcome ∙ ap (placed s.place) acted in
    let state : shown c.follow.new.self ≡ after_step c.args.row s c.args.taken = c.follow.ensures.state ∙ ap (changed s) acted in
    let fits : ActFits (act_at c.args.row s.locals c.args.taken) = subst ActFits acted c.follow.ensures.fits in
    record {
      outcome = outcome;
      state = state;
      told = λ inputs.
          let t = told inputs c.args.row s c.args.taken (int32-of-width c.ranges.taken) fits in
          subst
          (λ o. Told inputs c.args.row s c.args.taken o (shown c.follow.new.self))
          (sym outcome)
          (subst (Told inputs c.args.row s c.args.taken (outcome_of c.args.row s c.args.taken)) (sym state) t);
    }
