-- A variable that a way leaves as it is, where both entries hold the same cell, is covered. Assumes the law of order.
use Rattle.std.proofs.Common.{◌≡◌, ℕ, zero, suc, ◌+◌, ◌<◌, ◌≤◌, Bool, true, false, not, T, eqb, length, Option, Some, None, ◌⊎◌, List, ℤ, unwrap_or, sym, refl, ap, ◌∙◌, subst, inl, inr, ⊎_elim, arith}
use Rattle.std.proofs.lemmas.Bool.{and_from, cases_eq, cond-false, ne_eqb}
use Rattle.std.proofs.lemmas.List.FromFn.{length-range_with_len, get_or-range_with_len}
use Rattle.std.specs.Bool.{MatchBool}
use Rattle.std.specs.List.{AllWithin, range_with_len}
use Rattle.std.specs.Option.{MatchOption}
use Rattle.domain.specs.Laws.{Order}
use Rattle.domain.specs.Model.{Ops}
use Rattle.rules.specs.Checks.{all_below}
use Rattle.rules.specs.Tables.{cell_at}
use Rattle.rules.specs.Ways.{changed}
use Rattle.checker.specs.Changes.{after, covers, Touched, Untouched, ChangesCovered}
use Rattle.checker.specs.Grids.{shown, claims_in}
use Rattle.checker.specs.declared.changes.Change.{Change}
use Rattle.checker.specs.declared.changes.Way.{Way}
use Rattle.checker.specs.declared.changes.Change.TheVariants.{Nothing, One, Two}
use Rattle.checker.specs.declared.grids.Grid.{Grid}

module _ {V : Type 0} (cells : ℕ → V) where
  others : (x y : ℕ) (v : V) → (y ≡ x → ⊥) → changed cells x v y ≡ cells y
  others x y v h = cond-false (eqb y x) v (cells y) (ne_eqb y x h)

  as-it-is : (change : Change V) (y : ℕ) → Untouched change y → after cells change y ≡ cells y
  as-it-is Nothing y h = refl
  as-it-is (One x v) y h = others x y v h
  as-it-is (Two a v b w) y h = cond-false (eqb y b) w (changed cells a v y) (ne_eqb y b (λ e. h (inr e))) ∙ others a y v (λ e. h (inl e))

-- a way changes a variable or leaves it
touched-or-not : {V : Type 0} (change : Change V) (y : ℕ) → Touched change y ⊎ Untouched change y
touched-or-not Nothing y = inr (λ e. e)
touched-or-not (One x v) y = cases_eq y x
touched-or-not (Two a v b w) y =
    ⊎_elim (λ (q : y ≡ a). inl (inl q)) (λ (p : y ≡ a → ⊥).
    ⊎_elim (λ (q : y ≡ b). inl (inr q)) (λ (q : y ≡ b → ⊥). inr (λ either. ⊎_elim p q either)) (cases_eq y b)) (cases_eq y a)

-- a test that holds at each index below n
pub below_each : (f : ℕ → Bool) (n : ℕ) → ((i : ℕ) → i < n → f i ≡ true) → all_below f n ≡ true
below_each f zero each = refl
below_each f (suc n) each = and_from (all_below f n) (f n) (below_each f n (λ i h. each i (omega arith))) (each n (omega arith))

module _ {V : Type 0} (describes : V → ℤ → Type 0) (o : Ops V) (order : Order describes o) (w : Way V) where
  abbrev g : Grid
  g = w.from.grid.now

  pub same-covered : (x : ℕ) → Untouched w.change x → cell_at (shown g) w.from.place x ≡ cell_at (shown g) w.next x → covers o w x ≡ true
  same-covered x kept same =
      ap (o.covers ((claims_in o g).cell w.next x)) (as-it-is ((claims_in o g).cell w.from.place) w.change x kept
      ∙ ap (λ (cell : List ℕ). unwrap_or (o.reads cell) o.anything) same)
      ∙ order.covers_self ((claims_in o g).cell w.next x)

  -- what is changed is covered, and so is all else
  pub all-covered : ChangesCovered o w
      → ((i : ℕ) → i < g.sheet.variables → Untouched w.change i → covers o w i ≡ true)
      → all_below (covers o w) g.sheet.variables ≡ true
  all-covered changes rest = below_each (covers o w) g.sheet.variables (λ i h.
      ⊎_elim (λ (t : Touched w.change i). changes i h t) (λ (u : Untouched w.change i). rest i h u) (touched-or-not w.change i))

-- what a way changes is covered, by what it changes
module _ {V : Type 0} (o : Ops V) (w : Way V) where
  abbrev At : ℕ → Type 0
  At x = x < w.from.grid.now.sheet.variables → covers o w x ≡ true

  at_same : (x i : ℕ) → i ≡ x → At x → At i
  at_same x i e covered = subst At (sym e) covered

  pub none-changed : w.change ≡ Nothing → ChangesCovered o w
  none-changed e = λ i h t. absurd (subst (λ (c : Change V). Touched c i) e t)

  pub one-changed : (x : ℕ) (v : V) → w.change ≡ One x v → At x → ChangesCovered o w
  one-changed x v e covered = λ i h t. at_same x i (subst (λ (c : Change V). Touched c i) e t) covered h

  pub two-changed : (a : ℕ) (v : V) (b : ℕ) (u : V) → w.change ≡ Two a v b u → At a → At b → ChangesCovered o w
  two-changed a v b u e first second = λ i h t.
      ⊎_elim (λ (q : i ≡ a). at_same a i q first h) (λ (q : i ≡ b). at_same b i q second h) (subst (λ (c : Change V). Touched c i) e t)

false_not_true : {A : Type 0} → false ≡ true → A
false_not_true e = absurd (subst (λ (b : Bool). T (not b)) e tt)

-- what `all` and `find` over the numbers below n say of a test
pub each-of : (Yes : ℕ → Type 0) (No : Type 0) (n : ℕ) (r : Bool) → MatchBool r (AllWithin Yes (range_with_len 0 n) 0 (length (range_with_len 0 n))) No
    → r ≡ true → (i : ℕ) → i < n → Yes i
each-of Yes No n true h e i below =
    let e : 0 + i ≡ i = omega arith in
    subst Yes (get_or-range_with_len 0 n i 0 below ∙ e) (h i 0 (omega arith) (omega (arith, below, length-range_with_len 0 n)))
each-of Yes No n false h e i below = false_not_true e

pub first-of : (f : ℕ → Bool) (n : ℕ) (r : Option ℕ)
    → MatchOption r ((k : ℕ) → 0 ≤ k → k < n → f k ≡ true) (λ i. (0 ≤ i) × (i < n) × (f i ≡ false) × ((k : ℕ) → 0 ≤ k → k < i → f k ≡ true))
    → MatchOption r (all_below f n ≡ true) (λ x. (x < n) × (f x ≡ false))
first-of f n None h = below_each f n (λ i below. h i (omega arith) below)
first-of f n (Some x) h = (h.1, h.2)
