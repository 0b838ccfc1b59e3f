-- The acts of the machine are the steps of the rules. Assumes nothing.
use Rattle.std.proofs.Common.{◌≡◌, ℕ, Bool, true, false, cond, List, set, ℤ, pos, Ok, Err, Result, sym, refl, ap, ◌∙◌, subst, ⊎_elim, arith}
use Rattle.std.proofs.lemmas.Int.{ints}
use Rattle.std.proofs.lemmas.Bool.{cases_Bool, both_ways}
use Rattle.scan.specs.Scan.{and_then}
use Rattle.scan.proofs.Scans.{err-is-not-ok, ok_same, stage}
use Rattle.number.specs.Exact.{Int32, exact, holds, truth, worked, zero_trap}
use Rattle.number.specs.Means.{DividesByZero as ByZero, Answers}
use Rattle.number.specs.declared.Op.{Op}
use Rattle.number.specs.declared.Op.TheVariants.{IsLess, IsAtMost, IsEqual, IsUnequal}
use Rattle.number.specs.declared.Relation.{Relation}
use Rattle.number.specs.declared.Relation.TheVariants.{Less, AtMost, Equal, Unequal, Greater, AtLeast}
use Rattle.number.specs.declared.Trap.{Trap}
use Rattle.number.specs.declared.Trap.TheVariants.{Zero, Range}
use Rattle.number.proofs.Order.{eq-from-test, test-from-eq, fits-from-test}
use Rattle.number.proofs.Meaning.{answers, decides-zero}
use Rattle.machine.specs.Imp.{Exp, among, var, apply, Eval, pick, look, work, DividesByZero, here, left, right, assign, branch, done, condition, means, look_up}
use Rattle.machine.specs.Runs.{Spot, at, Goes, assigned, held, failed, Ends, Traps, zero, range}
use Rattle.machine.specs.Steps.{act_at, MayTake, Leads, RowFits, SetsFit, Faithful}
use Rattle.machine.specs.declared.Input.{Input}
use Rattle.machine.specs.declared.Row.{Row}
use Rattle.machine.specs.declared.Row.TheVariants.{End, Put, Take, Work, Fork}
use Rattle.machine.specs.declared.steps.Act.{Act}
use Rattle.machine.specs.declared.steps.Act.TheVariants.{Stop, Assign, Go}

-- ---- statements that differ

not-branch : {x t v u : ℕ} {e f : Exp} → assign x e t ≡ branch f v u → ⊥
not-branch p = let n : ◌≡◌ {A = ℕ} 0 1 = cc in omega arith

not_done : {x t : ℕ} {e : Exp} → assign x e t ≡ done → ⊥
not_done p = let n : ◌≡◌ {A = ℕ} 0 1 = cc in omega arith

branch-not-done : {v u : ℕ} {f : Exp} → branch f v u ≡ done → ⊥
branch-not-done p = let n : ◌≡◌ {A = ℕ} 0 1 = cc in omega arith

-- ---- what a step says of the statement that it is by

module _ (inputs : List Input) (row : Row) (s : Spot) where
  goes-assign : {P : Type 0} {s' : Spot} {x t : ℕ} {e : Exp} → means inputs row ≡ assign x e t → Goes inputs row s s' → ((n : ℤ) → Eval s.locals e n → Int32 n → s' ≡ at t (set s.locals x n) → P) → P
  goes-assign {x = x} {t = t} {e = e} q (assigned {x = y} {t = v} {e = f} {n = n} p ev i) go =
      let same : f ≡ e = cc in
      let there : v ≡ t = cc in
      let target : y ≡ x = cc in
      go n (subst (λ g. Eval s.locals g n) same ev) i (ap (λ k. at k (set s.locals y n)) there ∙ ap (λ k. at t (set s.locals k n)) target)
  goes-assign q (held p ev n) go = absurd (not-branch (sym q ∙ p))
  goes-assign q (failed p ev) go = absurd (not-branch (sym q ∙ p))

  goes_branch : {P : Type 0} {s' : Spot} {t u : ℕ} {e : Exp} → means inputs row ≡ branch e t u → Goes inputs row s s' → ((n : ℤ) → Eval s.locals e n → (n ≡ pos 0 → ⊥) → s' ≡ at t s.locals → P) → (Eval s.locals e (pos 0) → s' ≡ at u s.locals → P) → P
  goes_branch q (assigned p ev i) go otherwise = absurd (not-branch (sym p ∙ q))
  goes_branch {t = t} {e = e} q (held {e = f} {t = v} {n = n} p ev ne) go otherwise =
      let same : f ≡ e = cc in
      let there : v ≡ t = cc in
      go n (subst (λ g. Eval s.locals g n) same ev) ne (ap (λ k. at k s.locals) there)
  goes_branch {u = u} {e = e} q (failed {e = f} {u = v} p ev) go otherwise =
      let same : f ≡ e = cc in
      let there : v ≡ u = cc in
      otherwise (subst (λ g. Eval s.locals g (pos 0)) same ev) (ap (λ k. at k s.locals) there)

  goes-done : {s' : Spot} → means inputs row ≡ done → Goes inputs row s s' → ⊥
  goes-done q (assigned p ev i) = not_done (sym p ∙ q)
  goes-done q (held p ev n) = branch-not-done (sym p ∙ q)
  goes-done q (failed p ev) = branch-not-done (sym p ∙ q)

  traps-assign : {P : Type 0} {r : Trap} {x t : ℕ} {e : Exp} → means inputs row ≡ assign x e t → Traps inputs row s r → (DividesByZero s.locals e → r ≡ Zero → P) → ((n : ℤ) → Eval s.locals e n → (Int32 n → ⊥) → r ≡ Range → P) → P
  traps-assign {e = e} q (zero {e = f} p d) by past =
      let same : f ≡ e = cc in
      by (subst (DividesByZero s.locals) same d) refl
  traps-assign {e = e} q (range {e = f} {n = n} p ev far) by past =
      let same : f ≡ e = cc in
      past n (subst (λ g. Eval s.locals g n) same ev) far refl

  traps-branch : {r : Trap} {t u : ℕ} {e : Exp} → means inputs row ≡ branch e t u → Traps inputs row s r → ⊥
  traps-branch q (zero p d) = not-branch (sym p ∙ q)
  traps-branch q (range p ev far) = not-branch (sym p ∙ q)

  traps-done : {r : Trap} → means inputs row ≡ done → Traps inputs row s r → ⊥
  traps-done q (zero p d) = not_done (sym p ∙ q)
  traps-done q (range p ev far) = not_done (sym p ∙ q)

-- ---- what the expressions of rows evaluate to

picked : {locals : List ℤ} {each : ℤ → Bool} {n : ℤ} → Eval locals (among each) n → each n ≡ true
picked (pick h) = h

-- the values of two variables, as an operation on them found them
found : (P : ℤ → ℤ → Type 0) {m n y z : ℤ} → m ≡ y → n ≡ z → P y z → P m n
found P {m} {n} {y} {z} p q h = subst (λ u. P u n) (sym p) (subst (P y) (sym q) h)

module _ (locals : List ℤ) (op : Op) (a b : ℕ) where
  abbrev first : ℤ
  first = look_up locals a

  abbrev second : ℤ
  second = look_up locals b

  -- an operation on two variables evaluates to its result on their values
  worked-out : zero_trap op first second ≡ false → Eval locals (apply op (var a) (var b)) (exact op first second)
  worked-out z = work (look refl) (look refl) z refl

  -- and to nothing else
  only-result : {r : ℤ} → Eval locals (apply op (var a) (var b)) r → (zero_trap op first second ≡ false) × (exact op first second ≡ r)
  only-result {r} (work (look p) (look q) z e) =
      (found (λ u v. zero_trap op u v ≡ false) p q z, found (λ u v. exact op u v ≡ r) p q e)

  divides-by-zero : DividesByZero locals (apply op (var a) (var b)) → zero_trap op first second ≡ true
  divides-by-zero (here (look p) (look q) z) = found (λ u v. zero_trap op u v ≡ true) p q z
  divides-by-zero (left d) = elim d [ ]
  divides-by-zero (right d) = elim d [ ]

  no_zero : (ByZero op second → ⊥) → zero_trap op first second ≡ false
  no_zero h = ⊎_elim (λ t. absurd (h ((decides-zero op first second).0 t))) (λ t. t) (cases_Bool (zero_trap op first second))

  nonzero : zero_trap op first second ≡ false → ByZero op second → ⊥
  nonzero z h = both_ways (zero_trap op first second) z ((decides-zero op first second).1 h)

  -- what working the operation answers, by what its expression evaluates to
  abbrev answer : Result ℤ Trap
  answer = worked op first second

  told : Answers op first second answer
  told = answers op first second

  gives : (r : ℤ) → answer ≡ Ok r → Eval locals (apply op (var a) (var b)) r × Int32 r
  gives r e =
      let k = (told.done r).0 e in
      (subst (Eval locals (apply op (var a) (var b))) (sym k.2) (worked-out (no_zero k.0)), k.1)

  given : (r : ℤ) → Eval locals (apply op (var a) (var b)) r → Int32 r → answer ≡ Ok r
  given r ev i = let k = only-result ev in (told.done r).1 (nonzero k.0, i, sym k.1)

  by_zero : answer ≡ Err Zero → DividesByZero locals (apply op (var a) (var b))
  by_zero e = here (look refl) (look refl) ((decides-zero op first second).1 (told.zero.0 e))

  by-zero-back : DividesByZero locals (apply op (var a) (var b)) → answer ≡ Err Zero
  by-zero-back d = told.zero.1 ((decides-zero op first second).0 (divides-by-zero d))

  too_far : answer ≡ Err Range → (r : ℤ) × Eval locals (apply op (var a) (var b)) r × (Int32 r → ⊥)
  too_far e = let k = told.range.0 e in (exact op first second, worked-out (no_zero k.0), k.1)

  too-far-back : (r : ℤ) → Eval locals (apply op (var a) (var b)) r → (Int32 r → ⊥) → answer ≡ Err Range
  too-far-back r ev far = let k = only-result ev in told.range.1 (nonzero k.0, λ i. far (subst Int32 k.1 i))

-- a fork's condition evaluates to whether its relation holds, 1 or 0
tested : (rel : Relation) (locals : List ℤ) (a b : ℕ) → Eval locals (condition rel a b) (truth (holds rel (look_up locals a) (look_up locals b)))
tested Less locals a b = work (look refl) (look refl) refl refl
tested AtMost locals a b = work (look refl) (look refl) refl refl
tested Equal locals a b = work (look refl) (look refl) refl refl
tested Unequal locals a b = work (look refl) (look refl) refl refl
tested Greater locals a b = work (look refl) (look refl) refl refl
tested AtLeast locals a b = work (look refl) (look refl) refl refl

only-test : (rel : Relation) (locals : List ℤ) (a b : ℕ) {n : ℤ} → Eval locals (condition rel a b) n → truth (holds rel (look_up locals a) (look_up locals b)) ≡ n
only-test Less locals a b ev = (only-result locals IsLess a b ev).1
only-test AtMost locals a b ev = (only-result locals IsAtMost a b ev).1
only-test Equal locals a b ev = (only-result locals IsEqual a b ev).1
only-test Unequal locals a b ev = (only-result locals IsUnequal a b ev).1
only-test Greater locals a b ev = (only-result locals IsLess b a ev).1
only-test AtLeast locals a b ev = (only-result locals IsAtMost b a ev).1

one_is_not_zero : pos 1 ≡ pos 0 → ⊥
one_is_not_zero e = omega (arith, ints)

-- ---- results that differ

abbrev trap_in : {A : Type 0} → Trap → Result A Trap → Trap
trap_in k (Ok x) = k
trap_in k (Err j) = j

pub err-same : {A : Type 0} {j k : Trap} → ◌≡◌ {A = Result A Trap} (Err j) (Err k) → j ≡ k
err-same {j} e = ap (trap_in j) e

pub assign-goes-on : {x t : ℕ} {n : ℤ} → ◌≡◌ {A = Result Act Trap} (Ok (Assign x n t)) (Ok Stop) → ⊥
assign-goes-on e = let n : ◌≡◌ {A = ℕ} 0 1 = cc in omega arith

pub go-goes-on : {t : ℕ} → ◌≡◌ {A = Result Act Trap} (Ok (Go t)) (Ok Stop) → ⊥
go-goes-on e = let n : ◌≡◌ {A = ℕ} 0 1 = cc in omega arith

pub no-trap : {act : Act} {r : Trap} → ◌≡◌ {A = Result Act Trap} (Ok act) (Err r) → ⊥
no-trap e = err-is-not-ok (sym e)

-- ---- sound

-- the act that a result holds leads where the one that it was worked out to be leads
led : (s s' : Spot) (act : Act) {other : Act} → ◌≡◌ {A = Result Act Trap} (Ok act) (Ok other) → Leads s other s' → Leads s act s'
led s s' act e l = subst (λ a. Leads s a s') (sym (ok_same e)) l

module _ (inputs : List Input) (s : Spot) where
  abbrev locals : List ℤ
  locals = s.locals

  sound-fork : (rel : Relation) (a b t u : ℕ) {s' : Spot} (h : Bool) → holds rel (look_up locals a) (look_up locals b) ≡ h → s' ≡ at (cond h t u) locals → Goes inputs (Fork rel a b t u) s s'
  sound-fork rel a b t u true h l =
      let ev = subst (λ k. Eval locals (condition rel a b) (truth k)) h (tested rel locals a b) in
      subst (Goes inputs (Fork rel a b t u) s) (sym l) (held refl ev one_is_not_zero)
  sound-fork rel a b t u false h l =
      let ev = subst (λ k. Eval locals (condition rel a b) (truth k)) h (tested rel locals a b) in
      subst (Goes inputs (Fork rel a b t u) s) (sym l) (failed refl ev)

  pub sound : (row : Row) → RowFits row → (c : ℤ) → Int32 c → MayTake inputs row c → (act : Act) → act_at row locals c ≡ Ok act → (s' : Spot) → Leads s act s' → Goes inputs row s s'
  sound End f c i may act e s' l = absurd (led s s' Stop e l)
  sound (Put x n t) f c i may act e s' l =
      subst (Goes inputs (Put x n t) s) (sym (led s s' (Assign x n t) e l)) (assigned refl (pick (test-from-eq {a = n} refl)) f)
  sound (Take x k t) f c i may act e s' l =
      subst (Goes inputs (Take x k t) s) (sym (led s s' (Assign x c t) e l)) (assigned refl (pick may) i)
  sound (Work x op a b t) f c i may act e s' l =
      stage (worked op (look_up locals a) (look_up locals b)) (λ z. Ok (Assign x z t)) act (λ z w k.
      let g = gives locals op a b z w in
      subst (Goes inputs (Work x op a b t) s) (sym (led s s' (Assign x z t) k l)) (assigned refl g.0 g.1)) e
  sound (Fork rel a b t u) f c i may act e s' l =
      sound-fork rel a b t u (holds rel (look_up locals a) (look_up locals b)) refl (led s s' (Go (cond (holds rel (look_up locals a) (look_up locals b)) t u)) e l)

  -- ---- complete

  zero-fits : Int32 (pos 0)
  zero-fits = fits-from-test refl

  forked : (rel : Relation) (a b t u : ℕ) {s' : Spot} (h : Bool) → holds rel (look_up locals a) (look_up locals b) ≡ h → Goes inputs (Fork rel a b t u) s s' → s' ≡ at (cond h t u) locals
  forked rel a b t u true h g =
      goes_branch
      inputs (Fork rel a b t u) s refl g
      (λ n ev no_zero e. e)
      (λ ev e. absurd (one_is_not_zero (ap truth (sym h) ∙ only-test rel locals a b ev)))
  forked rel a b t u false h g =
      goes_branch
      inputs (Fork rel a b t u) s refl g
      (λ n ev no_zero e. absurd (no_zero (sym (ap truth (sym h) ∙ only-test rel locals a b ev))))
      (λ ev e. e)

  abbrev Led : Row → Spot → Type 0
  Led row s' = (c : ℤ) × (act : Act) × Int32 c × MayTake inputs row c × (act_at row locals c ≡ Ok act) × Leads s act s'

  pub complete : (row : Row) (s' : Spot) → Goes inputs row s s' → Led row s'
  complete End s' g = absurd (goes-done inputs End s refl g)
  complete (Put x n t) s' g =
      goes-assign
      inputs (Put x n t) s {P = Led (Put x n t) s'} refl g
      (λ r ev i e. (pos 0, Assign x n t, zero-fits, tt, refl, e ∙ ap (λ k. at t (set locals x k)) (sym (eq-from-test {a = n} {b = r} (picked ev)))))
  complete (Take x k t) s' g =
      goes-assign inputs (Take x k t) s {P = Led (Take x k t) s'} refl g (λ r ev i e. (r, Assign x r t, i, picked ev, refl, e))
  complete (Work x op a b t) s' g =
      goes-assign
      inputs (Work x op a b t) s {P = Led (Work x op a b t) s'} refl g
      (λ r ev i e. (pos 0, Assign x r t, zero-fits, tt, ap (λ k. and_then k (λ z. Ok (Assign x z t))) (given locals op a b r ev i), e))
  complete (Fork rel a b t u) s' g =
      (pos 0, Go (cond (holds rel (look_up locals a) (look_up locals b)) t u), zero-fits, tt, refl, forked rel a b t u (holds rel (look_up locals a) (look_up locals b)) refl g)

  -- ---- ends

  pub ends : (row : Row) (c : ℤ) → (act_at row locals c ≡ Ok Stop → Ends inputs row) × (Ends inputs row → act_at row locals c ≡ Ok Stop)
  ends End c = (λ _. refl, λ _. refl)
  ends (Put x n t) c = (λ e. absurd (assign-goes-on e), λ e. absurd (not_done e))
  ends (Take x k t) c = (λ e. absurd (assign-goes-on e), λ e. absurd (not_done e))
  ends (Work x op a b t) c =
      (λ e. absurd (stage (worked op (look_up locals a) (look_up locals b)) (λ z. Ok (Assign x z t)) Stop (λ z w k. assign-goes-on k) e), λ e. absurd (not_done e))
  ends (Fork rel a b t u) c = (λ e. absurd (go-goes-on e), λ e. absurd (branch-not-done e))

  -- ---- traps

  -- a work's act traps where the operation does
  trap-of : (x t : ℕ) (r : Result ℤ Trap) (k : Trap) → and_then r (λ z. Ok (Assign x z t)) ≡ Err k → r ≡ Err k
  trap-of x t (Ok z) k e = absurd (no-trap e)
  trap-of x t (Err j) k e = ap Err (err-same e)

  traps-work : (x : ℕ) (op : Op) (a b t : ℕ) (k : Trap) → worked op (look_up locals a) (look_up locals b) ≡ Err k → Traps inputs (Work x op a b t) s k
  traps-work x op a b t Zero e = zero refl (by_zero locals op a b e)
  traps-work x op a b t Range e = let far = too_far locals op a b e in range refl far.1 far.2

  pub traps-back : (row : Row) → RowFits row → SetsFit inputs → (c : ℤ) (k : Trap) → Traps inputs row s k → act_at row locals c ≡ Err k
  traps-back End f fits c k h = absurd (traps-done inputs End s refl h)
  traps-back (Put x n t) f fits c k h =
      absurd (traps-assign inputs (Put x n t) s refl h (λ d e. elim d [ ]) (λ r ev far e. far (subst Int32 (eq-from-test {a = n} {b = r} (picked ev)) f)))
  traps-back (Take x j t) f fits c k h =
      absurd (traps-assign inputs (Take x j t) s refl h (λ d e. elim d [ ]) (λ r ev far e. far (fits j r (picked ev))))
  traps-back (Work x op a b t) f fits c k h =
      traps-assign
      inputs (Work x op a b t) s refl h
      (λ d e. ap (λ q. and_then q (λ z. Ok (Assign x z t))) (by-zero-back locals op a b d ∙ ap Err (sym e)))
      (λ r ev far e. ap (λ q. and_then q (λ z. Ok (Assign x z t))) (too-far-back locals op a b r ev far ∙ ap Err (sym e)))
  traps-back (Fork rel a b t u) f fits c k h = absurd (traps-branch inputs (Fork rel a b t u) s refl h)

  pub traps-forth : (row : Row) (c : ℤ) (k : Trap) → act_at row locals c ≡ Err k → Traps inputs row s k
  traps-forth End c k e = absurd (no-trap e)
  traps-forth (Put x n t) c k e = absurd (no-trap e)
  traps-forth (Take x j t) c k e = absurd (no-trap e)
  traps-forth (Work x op a b t) c k e = traps-work x op a b t k (trap-of x t (worked op (look_up locals a) (look_up locals b)) k e)
  traps-forth (Fork rel a b t u) c k e = absurd (no-trap e)

-- the machine takes exactly the steps of the rules
pub faithful : (row : Row) (inputs : List Input) (s : Spot) → RowFits row → SetsFit inputs → Faithful row inputs s
faithful row inputs s f fits = record {
  sound = sound inputs s row f;
  complete = complete inputs s row;
  ends = ends inputs s row;
  traps = λ c k. (traps-forth inputs s row c k, traps-back inputs s row f fits c k);
}
