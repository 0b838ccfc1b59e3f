-- What a step does is a case of the rules. Assumes nothing.
use Rattle.std.proofs.Common.{◌≡◌, ℕ, Bool, true, false, cond, get_or, set, ℤ, pos, IfOk, Some, None, Ok, Err, Option, Result, sym, refl, ap, ◌∙◌, subst, arith}
use Rattle.scan.proofs.Scans.{err-is-not-ok, ok_same}
use Rattle.std.proofs.lemmas.Option.{none-some, same_Some}
use Rattle.std.specs.List.{slice_get}
use Rattle.machine.specs.Inputs.{allows}
use Rattle.machine.specs.Runs.{Spot, at}
use Rattle.machine.specs.Steps.{outcome_of, after_step, Told}
use Rattle.machine.specs.declared.Input.{Input}
use Rattle.machine.specs.declared.InputKind.{InputKind}
use Rattle.machine.specs.declared.InputKind.TheVariants.{Reading, Setting}
use Rattle.machine.specs.declared.Row.{Row}
use Rattle.machine.specs.declared.Row.TheVariants.{End, Put, Take, Work, Fork}
use Rattle.machine.specs.declared.states.Outcome.{Outcome}
use Rattle.machine.specs.declared.states.Outcome.TheVariants.{At, Ended, Trapped}
use Rattle.sheet.specs.declared.refusals.Refusal.{Refusal}
use Rattle.sheet.specs.declared.refusals.Refusal.TheVariants.{ReadingOutside, NothingHeld, NotRunning}
use Rattle.bay.specs.Calls
use Rattle.bay.specs.Calls.{Happens, Took, IsSetting, IsReading, nothing_held, does_not_run, stepped, step_ended, step_trapped, step_outside}
use Rattle.bay.specs.Calm.{CanTrap, settled}
use Rattle.bay.specs.Model.{View, by_mode, with_mode, with_state, mode_after, moves, row_now, step_of, taken_by, from_input, from_kind}
use Rattle.bay.specs.Views as Views
use Rattle.bay.specs.Views.{ToldOf, came, NoTrap}
use Rattle.bay.specs.declared.Mode.{Mode}
use Rattle.bay.specs.declared.Mode.TheVariants.{Empty, Held, Running}
use Rattle.bay.proofs.Rules.{as-case, reading-setting}
use Rattle.bay.proofs.Stepping.{may-take, kind_of, no-trap}

-- the same mode, set again
same-mode : (m : Mode) (v : View) → v.mode ≡ m → with_mode m v ≡ v
same-mode m v e i = record { mode = sym e i; variables = v.variables; inputs = v.inputs; settings = v.settings; rows = v.rows; state = v.state }

-- what two equal refusals are
abbrev refusal_or : Refusal → Result ℤ Refusal → Refusal
refusal_or d (Ok x) = d
refusal_or d (Err e) = e

refusal-same : {d e : Refusal} → ◌≡◌ {A = Result ℤ Refusal} (Err d) (Err e) → d ≡ e
refusal-same {d} q = ap (refusal_or d) q

module _ (v : View) (z : ℤ) (runs : v.mode ≡ Running) (kept : settled v.inputs v.settings ≡ true) where
  -- what is taken of input k
  kind-refuses : (i : Input) (kind : InputKind) (d : ℤ) (e : Refusal) → i.kind ≡ kind → from_kind i d z kind ≡ Err e → (e ≡ ReadingOutside) × (i.kind ≡ Reading) × (allows i z ≡ false)
  kind-refuses i Reading d e is q = by (allows i z) refl q
    where
      by : (b : Bool) → allows i z ≡ b → cond b (Ok z) (Err ReadingOutside) ≡ Err e → (e ≡ ReadingOutside) × (i.kind ≡ Reading) × (allows i z ≡ false)
      by true h p = absurd (err-is-not-ok (sym p))
      by false h p = (sym (refusal-same p), is, h)
  kind-refuses i Setting d e is q = absurd (err-is-not-ok (sym q))

  -- a take that is refused
  input-refuses : (k : ℕ) (o : Option Input) (d : ℤ) (e : Refusal) → slice_get v.inputs k ≡ o → from_input o d z ≡ Err e
      → (e ≡ ReadingOutside) × ((i : Input) → IsSetting v k i → ⊥) × ((i : Input) → IsReading v k i → allows i z ≡ false)
  input-refuses k None d e at q = (sym (refusal-same q), (λ i s. none-some _ (sym at ∙ s.0)), (λ i s. absurd (none-some _ (sym at ∙ s.0))))
  input-refuses k (Some n) d e at q =
      let r = kind-refuses n n.kind d e refl q in (
        r.0,
        (λ i s. reading-setting (sym r.1 ∙ ap (λ (j : Input). j.kind) (same_Some _ _ (sym at ∙ s.0)) ∙ s.1)),
        (λ i s. ap (λ (j : Input). allows j z) (sym (same_Some _ _ (sym at ∙ s.0))) ∙ r.2),
      )

  take-refused : (row : Row) (e : Refusal) → row_now v ≡ row → taken_by v z row ≡ Err e → Happens v (Calls.step z) (Calls.refused e) v
  take-refused End e is q = absurd (err-is-not-ok (sym q))
  take-refused (Put x n t) e is q = absurd (err-is-not-ok (sym q))
  take-refused (Take x k t) e is q =
      let r = input-refuses k (slice_get v.inputs k) (get_or v.settings k (pos 0)) e refl q in
      step_outside refl runs is r.1 r.2 (ap Calls.refused r.0) refl
  take-refused (Work x op a b t) e is q = absurd (err-is-not-ok (sym q))
  take-refused (Fork rel a b t u) e is q = absurd (err-is-not-ok (sym q))

  -- what a take took
  taken_as : (k : ℕ) (o : Option Input) (c : ℤ) → slice_get v.inputs k ≡ o → from_input o (get_or v.settings k (pos 0)) z ≡ Ok c
      → ((i : Input) → IsSetting v k i → c ≡ get_or v.settings k (pos 0)) × ((i : Input) → IsReading v k i → c ≡ z)
  taken_as k None c at q = absurd (err-is-not-ok q)
  taken_as k (Some n) c at q = by n.kind refl q
    where
      by : (kind : InputKind) → n.kind ≡ kind → from_kind n (get_or v.settings k (pos 0)) z kind ≡ Ok c
          → ((i : Input) → IsSetting v k i → c ≡ get_or v.settings k (pos 0)) × ((i : Input) → IsReading v k i → c ≡ z)
      by Reading is p = ((λ i s. absurd (reading-setting (sym is ∙ ap (λ (j : Input). j.kind) (same_Some _ _ (sym at ∙ s.0)) ∙ s.1))), (λ i s. read (allows n z) refl p))
        where
          read : (b : Bool) → allows n z ≡ b → cond b (Ok z) (Err ReadingOutside) ≡ Ok c → c ≡ z
          read true h r = sym (ok_same r)
          read false h r = absurd (err-is-not-ok r)
      by Setting is p = ((λ i s. sym (ok_same p)), (λ i s. absurd (reading-setting (sym s.1 ∙ ap (λ (j : Input). j.kind) (same_Some _ _ (sym s.0 ∙ at)) ∙ is))))

  took : (row : Row) (c : ℤ) → row_now v ≡ row → taken_by v z row ≡ Ok c → Took v z (after_step row v.state c)
  took row c is q = record {
    setting = λ x k t i e s.
        let r = taken_as k (slice_get v.inputs k) c refl (subst (λ (w : Row). taken_by v z w ≡ Ok c) (sym is ∙ e) q) in
        ap (λ (w : Row). after_step w v.state c) (sym is ∙ e) ∙ ap (λ (y : ℤ). at t (set v.state.locals x y)) (r.0 i s);
    reading = λ x k t i e s.
        let r = taken_as k (slice_get v.inputs k) c refl (subst (λ (w : Row). taken_by v z w ≡ Ok c) (sym is ∙ e) q) in
        ap (λ (w : Row). after_step w v.state c) (sym is ∙ e) ∙ ap (λ (y : ℤ). at t (set v.state.locals x y)) (r.1 i s);
  }

  -- a step that is made
  made_by : (c : ℤ) (o : Outcome) (s' : Spot) → taken_by v z (row_now v) ≡ Ok c → Told v.inputs (row_now v) v.state c o s' → Took v z s'
      → Happens v (Calls.step z) (came o) (with_state s' (with_mode (mode_after o) v))
  made_by c (At p) s' q told tk =
      stepped refl runs ((told.goes p refl).1 (may-take v z c (row_now v) kept q)) tk (ap Calls.moved (sym (told.goes p refl).0))
      (ap (with_state s') (same-mode Running v runs))
  made_by c Ended s' q told tk =
      step_ended refl runs (told.ends.0 refl) refl
      (ap (λ (s : Spot). with_state s (with_mode Held v)) (told.stays (λ p e. let n : ◌≡◌ {A = ℕ} 1 0 = ap kind_of e in omega arith)))
  made_by c (Trapped t p) s' q told tk =
      step_trapped refl runs (told.trapped t p refl).1 (ap (Calls.trapped t) (told.trapped t p refl).0)
      (ap (λ (s : Spot). with_state s (with_mode Held v)) (told.stays (λ p e. let n : ◌≡◌ {A = ℕ} 2 0 = ap kind_of e in omega arith)))

  moved_by : (t : Result ℤ Refusal) → taken_by v z (row_now v) ≡ t → IfOk (moves v (row_now v) t).0 (λ o. ToldOf z v o (moves v (row_now v) t).1.state)
      → Happens v (Calls.step z) (Views.stepped (moves v (row_now v) t).0) (moves v (row_now v) t).1
  moved_by (Err e) q told = take-refused (row_now v) e refl q
  moved_by (Ok c) q told =
      made_by told.0 (outcome_of (row_now v) v.state c) (after_step (row_now v) v.state c) told.1 told.2 (took (row_now v) c refl q)

pub step-happens : (v : View) (z : ℤ) → settled v.inputs v.settings ≡ true
    → IfOk (step_of z v).0 (λ o. ToldOf z v o (step_of z v).1.state) → Happens v (Calls.step z) (Views.stepped (step_of z v).0) (step_of z v).1
step-happens v z kept told = by v.mode refl told
  where
    by : (m : Mode) → v.mode ≡ m
        → IfOk (by_mode m (Err NothingHeld, v) (Err NotRunning, v) (moves v (row_now v) (taken_by v z (row_now v)))).0
        (λ o. ToldOf z v o (by_mode m (Err NothingHeld, v) (Err NotRunning, v) (moves v (row_now v) (taken_by v z (row_now v)))).1.state)
        → Happens v (Calls.step z) (Views.stepped (by_mode m (Err NothingHeld, v) (Err NotRunning, v) (moves v (row_now v) (taken_by v z (row_now v)))).0)
        (by_mode m (Err NothingHeld, v) (Err NotRunning, v) (moves v (row_now v) (taken_by v z (row_now v)))).1
    by Empty e t = nothing_held e tt refl refl
    by Held e t = does_not_run e tt refl refl
    by Running e t = moved_by v z e kept (taken_by v z (row_now v)) refl t

-- and answers no trap, where the bay is calm
pub step-quiet : (v : View) (z : ℤ) (r : Result Outcome Refusal) (s' : Spot) → (CanTrap v.inputs v.rows v.state → ⊥)
    → IfOk r (λ o. ToldOf z v o s') → IfOk r NoTrap
step-quiet v z (Ok o) s' calm told = no-trap v.inputs v.rows v.state s' told.0 calm o told.2
step-quiet v z (Err e) s' calm told = tt

-- a step with its clauses, where the reading has crossed a call
abbrev StepClauses : View → View → ℤ → Result Outcome Refusal → Type 0
StepClauses v v' z r = (r ≡ (step_of z v).0) × (v' ≡ (step_of z v).1) × Happens v (Calls.step z) (Views.stepped r) v' × IfOk r NoTrap

pub step-clauses : (v v' : View) (z z' : ℤ) (r : Result Outcome Refusal) → z' ≡ z → settled v.inputs v.settings ≡ true
    → (CanTrap v.inputs v.rows v.state → ⊥) → r ≡ (step_of z' v).0 → v' ≡ (step_of z' v).1
    → IfOk r (λ o. ToldOf z' v o v'.state) → StepClauses v v' z r
step-clauses v v' z z' r same kept calm value after told =
    subst (λ (y : ℤ). StepClauses v v' y r) same (
      value,
      after,
      as-case v v' (Calls.step z') _ _ _ (ap Views.stepped value) after
          (step-happens v z' kept (subst (λ (u : View). IfOk (step_of z' v).0 (λ o. ToldOf z' v o u.state)) after
          (subst (λ (q : Result Outcome Refusal). IfOk q (λ o. ToldOf z' v o v'.state)) value told))),
      step-quiet v z' r v'.state calm told,
    )
