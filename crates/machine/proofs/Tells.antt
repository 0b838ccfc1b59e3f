-- What the outcome of a step says, by the rules. Assumes nothing.
use Rattle.std.proofs.Common.{◌≡◌, ℕ, List, ℤ, Ok, Err, Result, sym, refl, ap, ◌∙◌, arith}
use Rattle.number.specs.Exact.{Int32}
use Rattle.number.specs.declared.Trap.{Trap}
use Rattle.machine.specs.Runs.{Spot, Traps}
use Rattle.machine.specs.Steps.{act_at, RowFits, SetsFit, placed, changed, ActFits, outcome_of, after_step, Told}
use Rattle.machine.specs.declared.Input.{Input}
use Rattle.machine.specs.declared.Row.{Row}
use Rattle.machine.specs.declared.Row.TheVariants.{End, Put, Take, Work, Fork}
use Rattle.machine.specs.declared.states.Outcome.TheVariants.{At, Ended, Trapped}
use Rattle.machine.specs.declared.steps.Act.{Act}
use Rattle.machine.specs.declared.steps.Act.TheVariants.{Stop, Assign, Go}
use Rattle.machine.proofs.Rules.{sound, ends, traps-forth, traps-back, assign-goes-on, go-goes-on, no-trap, err-same}

-- ---- outcomes that differ

ended-is-not-at : {p : ℕ} → Ended ≡ At p → ⊥
ended-is-not-at e = let n : ◌≡◌ {A = ℕ} 0 1 = cc in omega arith

ended-is-no-trap : {p : ℕ} {k : Trap} → Ended ≡ Trapped k p → ⊥
ended-is-no-trap e = let n : ◌≡◌ {A = ℕ} 0 1 = cc in omega arith

at-is-no-trap : {p q : ℕ} {k : Trap} → At p ≡ Trapped k q → ⊥
at-is-no-trap e = let n : ◌≡◌ {A = ℕ} 0 1 = cc in omega arith

at_same : {p q : ℕ} → At p ≡ At q → p ≡ q
at_same {p} {q} e = cc

trapped-same : {p q : ℕ} {j k : Trap} → Trapped j p ≡ Trapped k q → j ≡ k
trapped-same {p} {q} {j} {k} e = cc

trapped-there : {p q : ℕ} {j k : Trap} → Trapped j p ≡ Trapped k q → p ≡ q
trapped-there {p} {q} e = cc

-- a row whose act fits, fits
row_fits : (row : Row) (locals : List ℤ) (c : ℤ) → ActFits (act_at row locals c) → RowFits row
row_fits End locals c h = tt
row_fits (Put x n t) locals c h = h
row_fits (Take x k t) locals c h = tt
row_fits (Work x op a b t) locals c h = tt
row_fits (Fork rel a b t u) locals c h = tt

module _ (inputs : List Input) (row : Row) (s : Spot) (c : ℤ) (i : Int32 c) (f : RowFits row) where
  -- a step that traps has no act
  no-act : SetsFit inputs → {act : Act} {k : Trap} → act_at row s.locals c ≡ Ok act → Traps inputs row s k → ⊥
  no-act sets {k = k} e h = no-trap (sym e ∙ traps-back inputs s row f sets c k h)

  by-act : (r : Result Act Trap) → act_at row s.locals c ≡ r → Told inputs row s c (placed s.place r) (changed s r)
  by-act (Ok Stop) e = record {
    goes = λ p q. absurd (ended-is-not-at q);
    ends = (λ _. (ends inputs s row c).0 e, λ _. refl);
    trapped = λ k p q. absurd (ended-is-no-trap q);
    traps = λ sets k h. absurd (no-act sets e h);
    stays = λ _. refl;
  }
  by-act (Ok (Assign x n t)) e = record {
    goes = λ p q. (at_same q, λ may. sound inputs s row f c i may (Assign x n t) e (changed s (Ok (Assign x n t))) refl);
    ends = (λ q. absurd (ended-is-not-at (sym q)), λ h. absurd (assign-goes-on (sym e ∙ (ends inputs s row c).1 h)));
    trapped = λ k p q. absurd (at-is-no-trap q);
    traps = λ sets k h. absurd (no-act sets e h);
    stays = λ never. absurd (never t refl);
  }
  by-act (Ok (Go t)) e = record {
    goes = λ p q. (at_same q, λ may. sound inputs s row f c i may (Go t) e (changed s (Ok (Go t))) refl);
    ends = (λ q. absurd (ended-is-not-at (sym q)), λ h. absurd (go-goes-on (sym e ∙ (ends inputs s row c).1 h)));
    trapped = λ k p q. absurd (at-is-no-trap q);
    traps = λ sets k h. absurd (no-act sets e h);
    stays = λ never. absurd (never t refl);
  }
  by-act (Err j) e = record {
    goes = λ p q. absurd (at-is-no-trap (sym q));
    ends = (λ q. absurd (ended-is-no-trap (sym q)), λ h. absurd (no-trap (sym ((ends inputs s row c).1 h) ∙ e)));
    trapped = λ k p q. (sym (trapped-there q), traps-forth inputs s row c k (e ∙ ap Err (trapped-same q)));
    traps = λ sets k h. ap (λ a. Trapped a s.place) (err-same (sym e ∙ traps-back inputs s row f sets c k h));
    stays = λ _. refl;
  }

pub told : (inputs : List Input) (row : Row) (s : Spot) (c : ℤ) → Int32 c → ActFits (act_at row s.locals c) → Told inputs row s c (outcome_of row s c) (after_step row s c)
told inputs row s c i f =
    by-act inputs row s c i (row_fits row s.locals c f) (act_at row s.locals c) refl
