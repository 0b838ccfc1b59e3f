-- One step of a calm bay: it takes only what its inputs may give, answers no trap, and leaves it calm. Assumes nothing.
use Rattle.std.proofs.Common.{◌≡◌, ℕ, zero, suc, Bool, true, false, cond, List, [], ◌∷◌, get_or, set, ℤ, pos, Some, None, Ok, Err, Option, sym, refl, ap, ◌∙◌, subst, ap₂, arith}
use Rattle.std.proofs.lemmas.Bool.{and_parts, and_from}
use Rattle.scan.proofs.Scans.{ok_same, err-is-not-ok}
use Rattle.std.proofs.lemmas.Option.{none-some, same_Some}
use Rattle.std.specs.List.{slice_get}
use Rattle.machine.specs.Inputs.{allows, may_give}
use Rattle.machine.specs.Runs.{Spot, row_on, stays}
use Rattle.machine.specs.Steps.{MayTake, Told}
use Rattle.machine.specs.declared.Input.{Input}
use Rattle.machine.specs.declared.InputKind.{InputKind}
use Rattle.machine.specs.declared.InputKind.TheVariants.{Reading, Setting}
use Rattle.machine.specs.declared.Row.{Row}
use Rattle.machine.specs.declared.Row.TheVariants.{End, Put, Take, Work, Fork}
use Rattle.machine.specs.declared.states.Outcome.{Outcome}
use Rattle.machine.specs.declared.states.Outcome.TheVariants.{At, Ended, Trapped}
use Rattle.machine.proofs.Reached.{reaches-first}
use Rattle.sheet.specs.declared.refusals.Refusal.TheVariants.{ReadingOutside}
use Rattle.bay.specs.Calm.{CanTrap, settled}
use Rattle.bay.specs.Model.{View, from_kind, from_input, taken_by}
use Rattle.bay.specs.Views.{NoTrap}

-- input k may give what it allows
gives : (inputs : List Input) (k : ℕ) (i : Input) (z : ℤ) → slice_get inputs k ≡ Some i → allows i z ≡ true → may_give inputs k z ≡ true
gives [] k i z e h = absurd (none-some _ e)
gives (j ∷ inputs) zero i z e h = ap (λ (n : Input). allows n z) (same_Some _ _ e) ∙ h
gives (j ∷ inputs) (suc k) i z e h = gives inputs k i z e h

-- a setting is one that its input allows
setting-allowed : (inputs : List Input) (settings : List ℤ) (k : ℕ) (i : Input) → settled inputs settings ≡ true → slice_get inputs k ≡ Some i
    → allows i (get_or settings k (pos 0)) ≡ true
setting-allowed [] settings k i s e = absurd (none-some _ e)
setting-allowed (j ∷ inputs) [] k i s e = absurd (false-true s)
  where
    false-true : false ≡ true → ⊥
    false-true q = subst (λ (b : Bool). cond b ⊥ (Unit {0})) q tt
setting-allowed (j ∷ inputs) (z ∷ settings) zero i s e = ap (λ (n : Input). allows n z) (sym (same_Some _ _ e)) ∙ (and_parts (allows j z) (settled inputs settings) s).0
setting-allowed (j ∷ inputs) (z ∷ settings) (suc k) i s e = setting-allowed inputs settings k i (and_parts (allows j z) (settled inputs settings) s).1 e

-- and stays so when another is set that it allows
pub set-settled : (inputs : List Input) (settings : List ℤ) (k : ℕ) (i : Input) (z : ℤ) → settled inputs settings ≡ true → slice_get inputs k ≡ Some i
    → allows i z ≡ true → settled inputs (set settings k z) ≡ true
set-settled [] settings k i z s e h = refl
set-settled (j ∷ inputs) [] k i z s e h = s
set-settled (j ∷ inputs) (y ∷ settings) zero i z s e h =
    and_from (allows j z) (settled inputs settings) (ap (λ (n : Input). allows n z) (same_Some _ _ e) ∙ h) (and_parts (allows j y) (settled inputs settings) s).1
set-settled (j ∷ inputs) (y ∷ settings) (suc k) i z s e h =
    let parts = and_parts (allows j y) (settled inputs settings) s in
    and_from (allows j y) (settled inputs (set settings k z)) parts.0 (set-settled inputs settings k i z parts.1 e h)

-- what is taken of an input is an integer of its set
kind-gives : (i : Input) (setting z c : ℤ) (kind : InputKind) → allows i setting ≡ true → from_kind i setting z kind ≡ Ok c → allows i c ≡ true
kind-gives i setting z c Reading h e = by (allows i z) refl e
  where
    by : (b : Bool) → allows i z ≡ b → cond b (Ok z) (Err ReadingOutside) ≡ Ok c → allows i c ≡ true
    by true t q = ap (allows i) (sym (ok_same q)) ∙ t
    by false t q = absurd (err-is-not-ok q)
kind-gives i setting z c Setting h e = ap (allows i) (sym (ok_same e)) ∙ h

input-gives : (inputs : List Input) (settings : List ℤ) (k : ℕ) (z c : ℤ) (o : Option Input) → settled inputs settings ≡ true → slice_get inputs k ≡ o
    → from_input o (get_or settings k (pos 0)) z ≡ Ok c → may_give inputs k c ≡ true
input-gives inputs settings k z c None s at e = absurd (err-is-not-ok e)
input-gives inputs settings k z c (Some i) s at e =
    gives inputs k i c at (kind-gives i (get_or settings k (pos 0)) z c i.kind (setting-allowed inputs settings k i s at) e)

pub may-take : (v : View) (z c : ℤ) (row : Row) → settled v.inputs v.settings ≡ true → taken_by v z row ≡ Ok c → MayTake v.inputs row c
may-take v z c End s e = tt
may-take v z c (Put x n t) s e = tt
may-take v z c (Take x k t) s e = input-gives v.inputs v.settings k z c (slice_get v.inputs k) s refl e
may-take v z c (Work x op a b t) s e = tt
may-take v z c (Fork rel a b t u) s e = tt

-- the three outcomes are apart
abbrev pub kind_of : Outcome → ℕ
kind_of (At p) = 0
kind_of Ended = 1
kind_of (Trapped t p) = 2

-- a calm state answers no trap, and is calm one step on
module _ (inputs : List Input) (rows : List Row) (s s' : Spot) (c : ℤ) (calm : CanTrap inputs rows s → ⊥) where
  pub no-trap : (o : Outcome) → Told inputs (row_on rows s.place) s c o s' → NoTrap o
  no-trap (At p) told = tt
  no-trap Ended told = tt
  no-trap (Trapped t p) told = calm (record { state = s; reached = stays; trap = t; traps = (told.trapped t p refl).1 })

  same-calm : s' ≡ s → CanTrap inputs rows s' → ⊥
  same-calm e t = calm (subst (CanTrap inputs rows) e t)

  pub still-calm : (o : Outcome) → Told inputs (row_on rows s.place) s c o s' → MayTake inputs (row_on rows s.place) c → CanTrap inputs rows s' → ⊥
  still-calm (At p) told may t =
      calm (record { state = t.state; reached = reaches-first inputs rows ((told.goes p refl).1 may) t.reached; trap = t.trap; traps = t.traps })
  still-calm Ended told may t = same-calm (told.stays (λ p e. let n : ◌≡◌ {A = ℕ} 1 0 = ap kind_of e in omega arith)) t
  still-calm (Trapped k p) told may t = same-calm (told.stays (λ q e. let n : ◌≡◌ {A = ℕ} 2 0 = ap kind_of e in omega arith)) t

-- what a bay keeps to, where a setting has been changed
pub setting_kept : (is₀ is₁ : List Input) (zs₀ zs₁ : List ℤ) (rows : List Row) (s₀ s₁ : Spot) (k : ℕ) (i : Input) (z : ℤ)
    → is₁ ≡ is₀ → zs₁ ≡ set zs₀ k z → settled is₀ zs₀ ≡ true → Some i ≡ slice_get is₀ k → allows i z ≡ true
    → (CanTrap is₀ rows s₀ → ⊥) → (CanTrap is₀ rows s₁ → ⊥)
    → (settled is₁ zs₁ ≡ true) × (CanTrap is₁ rows s₀ → ⊥) × (CanTrap is₁ rows s₁ → ⊥)
setting_kept is₀ is₁ zs₀ zs₁ rows s₀ s₁ k i z same changed before at allowed safe calm = (
  ap₂ settled same changed ∙ set-settled is₀ zs₀ k i z before (sym at) allowed,
  subst (λ (is : List Input). CanTrap is rows s₀ → ⊥) (sym same) safe,
  subst (λ (is : List Input). CanTrap is rows s₁ → ⊥) (sym same) calm,
)

-- the same, where the row has been read
pub follows-calm : (inputs : List Input) (rows : List Row) (s s' : Spot) (c : ℤ) (row : Row) (o : Outcome) → row ≡ row_on rows s.place
    → (CanTrap inputs rows s → ⊥) → Told inputs row s c o s' → MayTake inputs row c → CanTrap inputs rows s' → ⊥
follows-calm inputs rows s s' c row o here calm told may =
    still-calm inputs rows s s' c calm o (subst (λ (r : Row). Told inputs r s c o s') here told) (subst (λ (r : Row). MayTake inputs r c) here may)
