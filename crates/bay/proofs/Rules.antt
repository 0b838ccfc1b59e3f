-- What each call does is a case of the rules. Assumes nothing.
use Rattle.std.proofs.Common.{◌≡◌, ℕ, Bool, true, false, cond, ltb, set, ℤ, Some, None, Ok, Err, Option, sym, refl, ap, ◌∙◌, subst, arith}
use Rattle.std.proofs.lemmas.Bool.{ltb-true, ltb-false}
use Rattle.std.proofs.lemmas.Option.{none-some, same_Some}
use Rattle.std.specs.List.{slice_get}
use Rattle.machine.specs.Imp.{look_up}
use Rattle.machine.specs.Inputs.{allows}
use Rattle.machine.specs.Runs.{start}
use Rattle.machine.specs.declared.Input.{Input}
use Rattle.machine.specs.declared.InputKind.{InputKind}
use Rattle.machine.specs.declared.InputKind.TheVariants.{Reading, Setting}
use Rattle.sheet.specs.declared.refusals.Refusal.TheVariants.{SettingOutside, NoVariable, NothingHeld, Running as RunsAlready, NotRunning}
use Rattle.bay.specs.Calls
use Rattle.bay.specs.Calls.{Call, Answer, Happens, nothing_held, runs_already, does_not_run, offer_taken, offer_refused, started, set_changed, set_nothing, set_outside, stepped, step_ended, step_trapped, step_outside, stopped, shows, shows_nothing}
use Rattle.bay.specs.Model.{View, Done, by_mode, start_of, stop_of, set_of, set_to, set_kind, show_of, shows_of, is_running, with_mode, with_state, with_settings}
use Rattle.bay.specs.Views.{finished, told}
use Rattle.bay.specs.declared.Mode.{Mode}
use Rattle.bay.specs.declared.Mode.TheVariants.{Empty, Held, Running}
use Rattle.bay.proofs.Kept.{mode_number}

-- the modes are apart
held-some : (v : View) → v.mode ≡ Held → v.mode ≡ Empty → ⊥
held-some v e q = let n : ◌≡◌ {A = ℕ} 1 0 = ap mode_number (sym e ∙ q) in omega arith

running-some : (v : View) → v.mode ≡ Running → v.mode ≡ Empty → ⊥
running-some v e q = let n : ◌≡◌ {A = ℕ} 2 0 = ap mode_number (sym e ∙ q) in omega arith

empty-rests : (v : View) → v.mode ≡ Empty → v.mode ≡ Running → ⊥
empty-rests v e q = let n : ◌≡◌ {A = ℕ} 0 2 = ap mode_number (sym e ∙ q) in omega arith

held-rests : (v : View) → v.mode ≡ Held → v.mode ≡ Running → ⊥
held-rests v e q = let n : ◌≡◌ {A = ℕ} 1 2 = ap mode_number (sym e ∙ q) in omega arith

-- an answer with the bay after it
abbrev Case : View → Call → Done × View → Type 0
Case v c r = Happens v c (finished r.0) r.1

-- a start
pub start-happens : (v : View) → Case v Calls.begin (start_of v)
start-happens v = by v.mode refl
  where
    by : (m : Mode) → v.mode ≡ m → Case v Calls.begin (by_mode m (Err NothingHeld, v) (Ok tt, with_state start (with_mode Running v)) (Err RunsAlready, v))
    by Empty e = nothing_held e tt refl refl
    by Held e = started refl e refl refl
    by Running e = runs_already e tt refl refl

-- a stop
pub stop-happens : (v : View) → Case v Calls.stop (stop_of v)
stop-happens v = by v.mode refl
  where
    by : (m : Mode) → v.mode ≡ m → Case v Calls.stop (by_mode m (Err NothingHeld, v) (Err NotRunning, v) (Ok tt, with_mode Held v))
    by Empty e = nothing_held e tt refl refl
    by Held e = does_not_run e tt refl refl
    by Running e = stopped refl e refl refl

-- a set, of a bay that holds something
abbrev kind_number : InputKind → ℕ
kind_number Reading = 0
kind_number Setting = 1

pub reading-setting : Reading ≡ Setting → ⊥
reading-setting q = let n : ◌≡◌ {A = ℕ} 0 1 = ap kind_number q in omega arith

module _ (v : View) (k : ℕ) (z : ℤ) (holds : v.mode ≡ Empty → ⊥) where
  kind-happens : (i : Input) (kind : InputKind) → slice_get v.inputs k ≡ Some i → i.kind ≡ kind → Case v (Calls.change k z) (set_kind v k z i kind)
  kind-happens i Reading at e = set_nothing refl holds (λ j s. reading-setting (sym e ∙ ap (λ (n : Input). n.kind) (same_Some _ _ (sym at ∙ s.0)) ∙ s.1)) refl refl
  kind-happens i Setting at e = by (allows i z) refl
    where
      by : (b : Bool) → allows i z ≡ b → Case v (Calls.change k z) (cond b (Ok tt, with_settings (set v.settings k z) v) (Err SettingOutside, v))
      by true h = set_changed refl holds (at, e) h refl refl
      by false h = set_outside refl holds (at, e) h refl refl

  input-happens : (o : Option Input) → slice_get v.inputs k ≡ o → Case v (Calls.change k z) (set_to v k z o)
  input-happens None at = set_nothing refl holds (λ j s. none-some _ (sym at ∙ s.0)) refl refl
  input-happens (Some i) at = kind-happens i i.kind at refl

-- a show
pub show-happens : (v : View) (x : ℕ) → Happens v (Calls.show x) (told (show_of x v)) v
show-happens v x = by v.mode refl
  where
    holds_by : (v.mode ≡ Empty → ⊥) → (b : Bool) → ltb x v.variables ≡ b
        → Happens v (Calls.show x) (told (cond b (Ok (record { running = is_running v.mode; place = v.state.place; value = look_up v.state.locals x })) (Err NoVariable))) v
    holds_by holds true e = shows refl holds (ltb-true x v.variables e) refl refl
    holds_by holds false e = shows_nothing refl holds (ltb-false x v.variables e) refl refl

    by : (m : Mode) → v.mode ≡ m → Happens v (Calls.show x) (told (by_mode m (Err NothingHeld) (shows_of x v) (shows_of x v))) v
    by Empty e = nothing_held e tt refl refl
    by Held e = holds_by (held-some v e) (ltb x v.variables) refl
    by Running e = holds_by (running-some v e) (ltb x v.variables) refl

-- an answer and a bay that are equal to those of a case
pub as-case : (v v' : View) (c : Call) (a : Answer) (b : Answer) (w : View) → a ≡ b → v' ≡ w → Happens v c b w → Happens v c a v'
as-case v v' c a b w ea ev h = subst (λ (x : Answer). Happens v c x v') (sym ea) (subst (λ (u : View). Happens v c b u) (sym ev) h)

-- a set with its clauses, where the value has crossed a call
abbrev SetClauses : View → View → ℕ → ℤ → Done → Type 0
SetClauses v v' k z r = (r ≡ (set_of k z v).0) × (v' ≡ (set_of k z v).1) × Happens v (Calls.change k z) (finished r) v'

-- where a bay holds something, a call that needs no more goes on
by_some : {A : Type 0} (m : Mode) (e x : A) → (m ≡ Empty → ⊥) → by_mode m e x x ≡ x
by_some Empty e x holds = absurd (holds refl)
by_some Held e x holds = refl
by_some Running e x holds = refl

pub set_clauses : (v v' : View) (k : ℕ) (z z' : ℤ) (r : Done) → z' ≡ z → (v.mode ≡ Empty → ⊥)
    → r ≡ (set_to v k z' (slice_get v.inputs k)).0 → v' ≡ (set_to v k z' (slice_get v.inputs k)).1 → SetClauses v v' k z r
set_clauses v v' k z z' r same holds value after =
    let is = sym (by_some v.mode (Err NothingHeld, v) (set_to v k z' (slice_get v.inputs k)) holds) in
    subst (λ (y : ℤ). SetClauses v v' k y r) same (
      value ∙ ap (λ (p : Done × View). p.0) is,
      after ∙ ap (λ (p : Done × View). p.1) is,
      as-case v v' (Calls.change k z') _ _ _ (ap finished value) after (input-happens v k z' holds (slice_get v.inputs k) refl),
    )
