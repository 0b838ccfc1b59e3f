-- The laws of a scan, once for inputs, rows, entries, cells, places and ways. Assumes nothing.
use Rattle.std.proofs.Common.{◌≡◌, ℕ, zero, suc, ◌+◌, ◌<◌, ◌≤◌, Bool, true, false, ◌⊎◌, Ok, Err, Result, sym, refl, ap, ◌∙◌, subst, inl, inr, ⊎_elim, not-suc-le-zero, add-one, arith}
use Rattle.std.proofs.lemmas.Bool.{cases_lt}
use Rattle.scan.specs.Scan.{and_then, Check, unless, passed, up_to}

abbrev wrong : {A E : Type 0} → Result A E → Type 0
wrong (Ok x) = ⊥
wrong (Err e) = Unit {0}

pub err-is-not-ok : {A E : Type 0} {e : E} {x : A} → ◌≡◌ {A = Result A E} (Err e) (Ok x) → ⊥
err-is-not-ok {A} {E} p = subst (λ (r : Result A E). wrong r) p tt

-- a check either passes or refuses
pub decided : {E : Type 0} (c : Check E) → (c ≡ Ok tt) ⊎ ((e : E) × (c ≡ Err e))
decided (Ok tt) = inl refl
decided (Err e) = inr (e, refl)

module _ {E : Type 0} (f : ℕ → Check E) where
  -- one index more
  pub up_next : (i : ℕ) → up_to f i ≡ Ok tt → f i ≡ Ok tt → up_to f (i + 1) ≡ Ok tt
  up_next i before here = rw (add-one i, before) here

  -- all below passed, and this one refuses: so does the scan
  stops-by : (i : ℕ) (e : E) → up_to f i ≡ Ok tt → f i ≡ Err e → (n : ℕ) → i < n → up_to f n ≡ Err e
  stops-by i e before here zero h = absurd (not-suc-le-zero h)
  stops-by i e before here (suc n) h = ⊎_elim
      (λ (q : i < n). rw (stops-by i e before here n q) refl)
      (λ (q : n ≤ i). let s : n ≡ i = omega arith in rw (s, before) here)
      (cases_lt i n)

  pub up-stops : (i n : ℕ) (e : E) → up_to f i ≡ Ok tt → f i ≡ Err e → i < n → Err e ≡ up_to f n
  up-stops i n e before here h = sym (stops-by i e before here n h)

  -- what a scan one longer has passed, it has passed before, and at the last index
  parts-of : (n : ℕ) → up_to f (suc n) ≡ Ok tt → (up_to f n ≡ Ok tt) × (f n ≡ Ok tt)
  parts-of n all = ⊎_elim
      (λ (b : up_to f n ≡ Ok tt). (b, rw b at all))
      (λ (b : (e : E) × (up_to f n ≡ Err e)). absurd (err-is-not-ok (rw b.1 at all)))
      (decided (up_to f n))

  -- a scan that passes has passed at each index
  pub up-each : (n : ℕ) → up_to f n ≡ Ok tt → (i : ℕ) → i < n → f i ≡ Ok tt
  up-each zero all i h = absurd (not-suc-le-zero h)
  up-each (suc n) all i h = ⊎_elim
      (λ (q : i < n). up-each n (parts-of n all).0 i q)
      (λ (q : n ≤ i). let s : n ≡ i = omega arith in rw (← s) (parts-of n all).1)
      (cases_lt i n)

  -- a scan that refuses does so at a first index: all below passed, and that one refuses
  pub up_first : (n : ℕ) (e : E) → up_to f n ≡ Err e → (i : ℕ) × (i < n) × (up_to f i ≡ Ok tt) × (f i ≡ Err e)
  up_first zero e r = absurd (err-is-not-ok (sym r))
  up_first (suc n) e r = ⊎_elim
      (λ (b : up_to f n ≡ Ok tt). (n, omega arith, b, rw b at r))
      (λ (b : (d : E) × (up_to f n ≡ Err d)).
      let s : up_to f n ≡ Err e = b.1 ∙ rw b.1 at r in
      let below = up_first n e s in
      (below.0, omega (arith, below.1), below.2, below.3))
      (decided (up_to f n))

-- two scans that ask the same at each index answer the same
pub up_same : {E : Type 0} (f g : ℕ → Check E) (n : ℕ) → ((i : ℕ) → i < n → f i ≡ g i) → up_to f n ≡ up_to g n
up_same f g zero same = refl
up_same f g (suc n) same = rw (up_same f g n (λ i h. same i (omega arith)), same n (omega arith)) refl

-- a test that passed held, and one that refused did not
pub held : {E : Type 0} (b : Bool) (e : E) → unless b e ≡ Ok tt → b ≡ true
held true e p = refl
held false e p = absurd (err-is-not-ok p)

pub passes : {E : Type 0} (b : Bool) (e : E) → b ≡ true → unless b e ≡ Ok tt
passes b e h = rw h refl

pub refuses : {E : Type 0} (b : Bool) (e : E) → b ≡ false → unless b e ≡ Err e
refuses b e h = rw h refl

-- two checks in a row passed: so did each
pub then_ok : {A B E : Type 0} (r : Result A E) (next : A → Result B E) (y : B) → and_then r next ≡ Ok y → (x : A) × (r ≡ Ok x) × (next x ≡ Ok y)
then_ok (Ok x) next y e = (x, refl, e)
then_ok (Err d) next y e = absurd (err-is-not-ok e)

-- the same, for a chain of checks: go on with what the first found
pub stage : {A B E P : Type 0} (r : Result A E) (next : A → Result B E) (y : B) → ((x : A) → r ≡ Ok x → next x ≡ Ok y → P) → and_then r next ≡ Ok y → P
stage (Ok x) next y go e = go x refl e
stage (Err d) next y go e = absurd (err-is-not-ok e)

abbrev found : {A E : Type 0} → A → Result A E → A
found d (Ok x) = x
found d (Err e) = d

pub ok_same : {A E : Type 0} {x y : A} → ◌≡◌ {A = Result A E} (Ok x) (Ok y) → x ≡ y
ok_same {x} e = ap (found x) e

-- a check that is asked only whether it passes
pub passed_ok : {A E : Type 0} (r : Result A E) (x : A) → Ok x ≡ r → passed r ≡ Ok tt
passed_ok r x e = rw (← e) refl

pub passed-err : {A E : Type 0} (r : Result A E) (d : E) → Err d ≡ r → passed r ≡ Err d
passed-err r d e = rw (← e) refl

-- the first check passes: the chain goes on with what it found
pub then-on : {A B E : Type 0} (r : Result A E) (next : A → Result B E) (x : A) (z : Result B E) → r ≡ Ok x → next x ≡ z → and_then r next ≡ z
then-on r next x z e k = rw e k

always : {E : Type 0} (n : ℕ) → up_to {E = E} (λ _. Ok tt) n ≡ Ok tt
always zero = refl
always {E} (suc n) = rw (always {E = E} n) refl

-- a scan that passes at each index passes
pub up-all : {E : Type 0} (f : ℕ → Check E) (n : ℕ) → ((i : ℕ) → i < n → f i ≡ Ok tt) → up_to f n ≡ Ok tt
up-all f n all = up_same f (λ _. Ok tt) n all ∙ always n
