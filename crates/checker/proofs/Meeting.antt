-- Answers of the code that meet the rules, along scans and chains of checks. Assumes nothing.
use Rattle.std.proofs.Common.{◌≡◌, ℕ, zero, suc, ◌+◌, ◌<◌, ◌≤◌, Bool, true, false, Ok, Err, Result, sym, refl, ap, ◌∙◌, subst, ⊎_elim, not-suc-le-zero, add-one, arith}
use Rattle.std.proofs.lemmas.Bool.{and_from, and_left, and_right, cases_lt}
use Rattle.rules.specs.Checks.{all_below}
use Rattle.scan.specs.Scan.{and_then, Check, up_to}
use Rattle.scan.proofs.Scans.{up-stops}
use Rattle.sheet.specs.declared.refusals.Refusal.{Refusal}
use Rattle.rules.specs.Faults.{Fault, Allows, Meets}

-- what passed in the code passed by the rules
pub meets-ok : {A : Type 0} (x : A) (m : Result A Fault) → Meets (Ok x) m → m ≡ Ok x
meets-ok x (Ok y) e = ap Ok (sym e)
meets-ok x (Err f) e = absurd e

-- and what was refused was refused by a fault that allows it
pub meets-err : {A : Type 0} (r : Refusal) (m : Result A Fault) → Meets (Err r) m → (f : Fault) × (m ≡ Err f) × Allows f r
meets-err r (Ok y) e = absurd e
meets-err r (Err f) e = (f, refl, e)

-- a scan stops at the first index at which the code is refused
pub meets-stop : (f : ℕ → Check Fault) (i n : ℕ) (r : Refusal) → up_to f i ≡ Ok tt → Meets (Err r) (f i) → i < n → Meets {A = Unit {0}} (Err r) (up_to f n)
meets-stop f i n r before here h =
    let e = meets-err r (f i) here in
    subst (λ (m : Check Fault). Meets (Err r) m) (up-stops f i n e.0 before e.1 h) e.2

-- a chain goes on where its first check passed, and stops where it was refused
pub meets-then : {A B : Type 0} (m : Result A Fault) (next : A → Result B Fault) (x : A) (r : Result B Refusal) → Meets (Ok x) m → Meets r (next x) → Meets r (and_then m next)
meets-then m next x r first then = rw (meets-ok x m first) then

pub meets-break : {A B : Type 0} (m : Result A Fault) (next : A → Result B Fault) (r : Refusal) → Meets (Err r) m → Meets {A = B} (Err r) (and_then m next)
meets-break m next r e =
    let f = meets-err r m e in
    rw f.1 f.2

-- what the exit of a `?` returns meets what the refusal does
pub exits : {A : Type 0} (r : Result A Refusal) (y d : Refusal) → r ≡ Err y → y ≡ d → (m : Result A Fault) → Meets (Err d) m → Meets r m
exits {A} r y d e same m h = subst (λ (q : Result A Refusal). Meets q m) (sym (e ∙ ap Err same)) h

-- a test at every index, one more, and one that fails
pub below_next : (f : ℕ → Bool) (i : ℕ) → all_below f i ≡ true → f i ≡ true → all_below f (i + 1) ≡ true
below_next f i before here = rw (add-one i) (and_from (all_below f i) (f i) before here)

fails_by : (f : ℕ → Bool) (i : ℕ) → f i ≡ false → (n : ℕ) → i < n → all_below f n ≡ false
fails_by f i e zero h = absurd (not-suc-le-zero h)
fails_by f i e (suc n) h = ⊎_elim
    (λ (q : i < n). and_left (all_below f n) (f n) (fails_by f i e n q))
    (λ (q : n ≤ i). let s : n ≡ i = omega arith in and_right (all_below f n) (f n) (rw s e))
    (cases_lt i n)

pub below_fails : (f : ℕ → Bool) (i n : ℕ) → i < n → f i ≡ false → all_below f n ≡ false
below_fails f i n h e = fails_by f i e n h

-- a scan that has come to its end has passed
pub meets-end : (f : ℕ → Check Fault) (i n : ℕ) → up_to f i ≡ Ok tt → i ≡ n → Meets {A = Unit {0}} (Ok tt) (up_to f n)
meets-end f i n e same = rw (← same, e) refl
