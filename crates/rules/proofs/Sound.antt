-- A table that passes the check is inductive: it describes the start, every step keeps it, and no step traps.
-- Assumes the laws of the domain.
use Rattle.std.proofs.Common.{◌≡◌, ℕ, zero, suc, ◌<◌, ◌≤◌, Bool, true, false, not, ◌&&◌, eqb, List, length, set, replicate, ℤ, pos, ◌≤ℤ◌, Some, None, Ok, Option, sym, refl, ap, ◌∙◌, subst, ⊎_elim, not-suc-le-zero, arith, lit<, length-set}
use lib.ListN.{length-replicate}
use lib.Signed.{le_z}
use Rattle.std.proofs.lemmas.List.{get_or-set_same, get_or-set_other, get_or-replicate, get_or_past}
use Rattle.std.proofs.lemmas.Bool.{cases_lt, cases_eq, and_parts, cond_both, eqb-true, eqb-false, not-true, both_ways, not_from_false, true≢false}
use Rattle.scan.specs.Scan.{unless}
use Rattle.scan.proofs.Scans.{stage, held, up-each}
use Rattle.number.specs.Exact.{Int32, holds, mirrored, opposite, exact, zero_trap, range_trap, fits32}
use Rattle.number.specs.declared.Op.{Op}
use Rattle.number.specs.declared.Relation.{Relation}
use Rattle.number.specs.declared.Trap.{Trap}
use Rattle.number.proofs.Meaning.{holds-mirrored, holds-opposite}
use Rattle.number.proofs.Order.{le_refl, le-from-test, le_trans, eq-from-test, le_of_eq, fits-from-test}
use Rattle.machine.specs.Imp.{look_up, Eval, Stmt, assign, branch, done, DividesByZero, means}
use Rattle.machine.specs.Runs.{Spot, at, start, Goes, assigned, held as branched, failed, Traps, zero as zero_trapped, range as range_trapped, row_on, Step, Trapped, stays, onward}
use Rattle.machine.specs.Inputs.{may_give}
use Rattle.machine.specs.declared.Input.{Input}
use Rattle.machine.specs.declared.Row.{Row}
use Rattle.machine.specs.declared.Row.TheVariants.{End, Put, Take, Work, Fork}
use Rattle.sheet.specs.Format.{Names, Proper}
use Rattle.sheet.specs.declared.refusals.Refusal.TheVariants.{StartUncovered}
use Rattle.domain.specs.Model.{Ops}
use Rattle.domain.specs.Laws.{Order, Working, Narrowing, Keeps}
use Rattle.rules.specs.Checks.{Routine, all_below, start_right, unwarned, covered, lands, way_right, place_right}
use Rattle.rules.specs.Claims.{Claims, Described}
use Rattle.rules.specs.Faults.{fixed}
use Rattle.rules.specs.Safety.{Safe, Reachable}
use Rattle.rules.specs.Ways.{go, changed, input_on, ways, way, meeting, fork_way}
use Rattle.rules.proofs.Evals.{picked, worked, divided, tested, not-zero, is_zero, in-set}

-- a test that holds at each index below n holds at one
pub all-below : (f : ℕ → Bool) (n : ℕ) → all_below f n ≡ true → (i : ℕ) → i < n → f i ≡ true
all-below f zero all i h = absurd (not-suc-le-zero h)
all-below f (suc n) all i h =
    let both = and_parts (all_below f n) (f n) all in
    ⊎_elim
    (λ (q : i < n). all-below f n both.0 i q)
    (λ (q : n ≤ i). let e : n ≡ i = omega arith in subst (λ k. f k ≡ true) e both.1)
    (cases_lt i n)

-- a routine that names only what it has, with at most 16 variables, and inputs whose sets are not empty
pub record WellMade (r : Routine) : Type 0 where
  pub few : r.variables ≤ 16
  pub rows : (i : ℕ) → Names r.variables (length r.inputs) (length r.rows) (row_on r.rows i)
  pub inputs : (k : ℕ) → Proper (input_on r.inputs k)

-- a routine that passes the check of a table
pub record Passes {V : Type 0} (o : Ops V) (r : Routine) (claims : Claims V) : Type 0 where
  pub made : WellMade r
  pub starts : start_right o r claims ≡ Ok tt
  pub places : (place : ℕ) → claims.present place ≡ true → place_right o r claims place ≡ Ok tt

-- what every state keeps: the table describes it, and it has 16 variables, each an integer of 32 bits
pub record Kept {V : Type 0} (describes : V → ℤ → Type 0) (r : Routine) (claims : Claims V) (s : Spot) : Type 0 where
  pub described : Described describes r.variables claims s
  pub small : (x : ℕ) → Int32 (look_up s.locals x)
  pub sixteen : length s.locals ≡ 16

-- 0 is an integer of 32 bits, and so is every variable at the start
zero-small : Int32 (pos 0)
zero-small = fits-from-test refl

start_is : (x : ℕ) → look_up start.locals x ≡ pos 0
start_is x = ⊎_elim
    (λ (q : x < 16). get_or-replicate 16 x (pos 0) (pos 0) q)
    (λ (q : 16 ≤ x). get_or_past (replicate 16 (pos 0)) x (pos 0) q)
    (cases_lt x 16)

-- the value of a variable after an assignment
set_is : (locals : List ℤ) (x : ℕ) (n : ℤ) → x < length locals → look_up (set locals x n) x ≡ n
set_is locals x n h = get_or-set_same locals x n (pos 0) h

set_keeps : (locals : List ℤ) (x : ℕ) (n : ℤ) (y : ℕ) → (y ≡ x → ⊥) → look_up (set locals x n) y ≡ look_up locals y
set_keeps locals x n y h = get_or-set_other locals x y n (pos 0) h

set-small : (locals : List ℤ) (x : ℕ) (n : ℤ) → x < length locals → Int32 n → ((y : ℕ) → Int32 (look_up locals y)) → (y : ℕ) → Int32 (look_up (set locals x n) y)
set-small locals x n h fits all y = ⊎_elim
    (λ (e : y ≡ x). subst Int32 (sym (ap (look_up (set locals x n)) e ∙ set_is locals x n h)) fits)
    (λ (e : y ≡ x → ⊥). subst Int32 (sym (set_keeps locals x n y e)) (all y))
    (cases_eq y x)

module _ {V : Type 0} (describes : V → ℤ → Type 0) where
  -- values with one changed describe what they are to describe, if the new one does, and the others elsewhere
  changed-describes : (values : ℕ → V) (x : ℕ) (v : V) (new : ℕ → ℤ) (y : ℕ) → describes v (new x) → ((y ≡ x → ⊥) → describes (values y) (new y)) → describes (changed values x v y) (new y)
  changed-describes values x v new y here others = cond_both (eqb y x) v (values y) (λ u. describes u (new y))
      (λ e. subst (λ k. describes v (new k)) (sym (eqb-true y x e)) here)
      (λ e. others (eqb-false y x e))

module _ {V : Type 0} (describes : V → ℤ → Type 0) (o : Ops V) (order : Order describes o) (r : Routine) (claims : Claims V) where
  -- a way that passes leads to a place whose entry describes what the way's values describe
  landed : (place w t : ℕ) (values : ℕ → V) (locals : List ℤ) → ((x : ℕ) → Int32 (look_up locals x))
      → ((x : ℕ) → x < r.variables → describes (values x) (look_up locals x))
      → lands o r claims place w (go t values) ≡ Ok tt → Described describes r.variables claims (at t locals)
  landed place w t values locals small each e =
      stage (unless (claims.present t) _) _ tt (λ _ there e₁.
      record {
        here = held (claims.present t) _ there;
        each = λ x h. order.covers_sound (claims.cell t x) (values x)
            (all-below (covered o r claims t values) r.variables (held (all_below (covered o r claims t values) r.variables) _ e₁) x h)
            (look_up locals x) (small x) (each x h);
      }) e

  -- a step from a state that the table describes
  module _ (s : Spot) (k : Kept describes r claims s) (few : r.variables ≤ 16) where
    -- x := n, on a way whose value for x describes n
    put_on : (w x t : ℕ) (v : V) (n : ℤ) → x < r.variables → Int32 n → describes v n
        → lands o r claims s.place w (go t (changed (claims.cell s.place) x v)) ≡ Ok tt → Kept describes r claims (at t (set s.locals x n))
    put_on w x t v n below fits here e =
        let inside : x < length s.locals = omega (arith, k.sixteen) in
        let small = set-small s.locals x n inside fits k.small in
        record {
          described = landed s.place w t (changed (claims.cell s.place) x v) (set s.locals x n) small
              (λ y h. changed-describes describes (claims.cell s.place) x v (look_up (set s.locals x n)) y
              (subst (describes v) (sym (set_is s.locals x n inside)) here)
              (λ other. subst (describes (claims.cell s.place y)) (sym (set_keeps s.locals x n y other)) (k.described.each y h)))
              e;
          small = small;
          sixteen = length-set s.locals x n ∙ k.sixteen;
        }

    -- a state that goes on with its variables as they are
    same-on : (w t : ℕ) (values : ℕ → V) → ((x : ℕ) → x < r.variables → describes (values x) (look_up s.locals x))
        → lands o r claims s.place w (go t values) ≡ Ok tt → Kept describes r claims (at t s.locals)
    same-on w t values each e = record {
      described = landed s.place w t values s.locals k.small each e;
      small = k.small;
      sixteen = k.sixteen;
    }

    -- a way of a fork on which both operands are left with values that describe them
    met-on : (w t a b : ℕ) → a < r.variables → b < r.variables → (p q : Option V)
        → Keeps describes (look_up s.locals a) p → Keeps describes (look_up s.locals b) q
        → lands o r claims s.place w (meeting o t (claims.cell s.place) a b p q) ≡ Ok tt → Kept describes r claims (at t s.locals)
    met-on w t a b ha hb None q dp dq e = absurd dp
    met-on w t a b ha hb (Some v) None dp dq e = absurd dq
    met-on w t a b ha hb (Some v) (Some u) dp dq e =
        let cells = claims.cell s.place in
        let now = look_up s.locals in
        same-on w t (changed (changed cells a v) b u)
        (λ y h. changed-describes describes (changed cells a v) b u now y dq
        (λ _. changed-describes describes cells a v now y dp (λ _. k.described.each y h)))
        e

    -- a way of a fork, on which its relation holds
    fork-on : Narrowing describes o → (w : ℕ) (rel : Relation) (a b t : ℕ) → a < r.variables → b < r.variables
        → holds rel (look_up s.locals a) (look_up s.locals b) ≡ true
        → lands o r claims s.place w (fork_way o (claims.cell s.place) rel a b t) ≡ Ok tt → Kept describes r claims (at t s.locals)
    fork-on narrowing w rel a b t ha hb hold =
        let cells = claims.cell s.place in
        let x = look_up s.locals a in
        let y = look_up s.locals b in
        cond_both (eqb a b) (go t cells) (meeting o t cells a b (o.narrows (cells a) rel (cells b)) (o.narrows (cells b) (mirrored rel) (cells a)))
        (λ way. lands o r claims s.place w way ≡ Ok tt → Kept describes r claims (at t s.locals))
        (λ _ e. same-on w t cells k.described.each e)
        (λ _ e. met-on w t a b ha hb (o.narrows (cells a) rel (cells b)) (o.narrows (cells b) (mirrored rel) (cells a))
        (narrowing.kept (cells a) rel (cells b) x y (k.small a) (k.small b) (k.described.each a ha) (k.described.each b hb) hold)
        (narrowing.kept (cells b) (mirrored rel) (cells a) y x (k.small b) (k.small a) (k.described.each b hb) (k.described.each a ha) (sym (holds-mirrored rel x y) ∙ hold))
        e)

-- what a step does by the statement that its row stands for
module _ (locals : List ℤ) (P : Spot → Type 0) where
  -- an assignment of n
  abbrev Assigns : ℤ → Stmt → Type 0
  Assigns n (assign x e t) = Eval locals e n → Int32 n → P (at t (set locals x n))
  Assigns n (branch e t u) = Unit {0}
  Assigns n done = Unit {0}

  -- a condition that evaluates to something other than 0, and one that evaluates to 0
  abbrev Holds : Stmt → Type 0
  Holds (assign x e t) = Unit {0}
  Holds (branch e t u) = (n : ℤ) → Eval locals e n → (n ≡ pos 0 → ⊥) → P (at t locals)
  Holds done = Unit {0}

  abbrev Fails : Stmt → Type 0
  Fails (assign x e t) = Unit {0}
  Fails (branch e t u) = Eval locals e (pos 0) → P (at u locals)
  Fails done = Unit {0}

-- the two traps do not come
module _ (locals : List ℤ) where
  abbrev NoZero : Stmt → Type 0
  NoZero (assign x e t) = DividesByZero locals e → ⊥
  NoZero (branch e t u) = Unit {0}
  NoZero done = Unit {0}

  abbrev NoRange : Stmt → Type 0
  NoRange (assign x e t) = (n : ℤ) → Eval locals e n → Int32 n
  NoRange (branch e t u) = Unit {0}
  NoRange done = Unit {0}

-- a result that is no range trap is an integer of 32 bits
fits-else : (z f : Bool) → z ≡ false → (not z && not f) ≡ false → f ≡ true
fits-else true f z e = absurd (true≢false z)
fits-else false true z e = refl
fits-else false false z e = absurd (true≢false e)

in-range : (op : Op) (x y : ℤ) → zero_trap op x y ≡ false → range_trap op x y ≡ false → Int32 (exact op x y)
in-range op x y z e = fits-from-test (fits-else (zero_trap op x y) (fits32 (exact op x y)) z e)

-- an input gives an integer from its lo to its hi
pub record Between (i : Input) (n : ℤ) : Type 0 where
  pub low : i.lo ≤ℤ n
  pub high : n ≤ℤ i.hi

between : (inputs : List Input) (k : ℕ) (n : ℤ) → may_give inputs k n ≡ true → Between (input_on inputs k) n
between inputs k n h =
    let i = input_on inputs k in
    let both = and_parts (le_z i.lo n) (le_z n i.hi) (in-set inputs k n h) in
    record { low = le-from-test both.0; high = le-from-test both.1 }

-- a place that passes: no warning, and each way leads to an entry that covers it
pub record Right {V : Type 0} (o : Ops V) (r : Routine) (claims : Claims V) (place : ℕ) (row : Row) : Type 0 where
  pub quiet : unwarned o r claims place row ≡ Ok tt
  pub leads : (w : ℕ) → w < ways r.inputs row → lands o r claims place w (way o r.inputs row (claims.cell place) w) ≡ Ok tt

-- a work row that passes warns of neither trap
pub record Quiet {V : Type 0} (o : Ops V) (op : Op) (a b : V) : Type 0 where
  pub zero : (o.works op a b).1 ≡ false
  pub range : (o.works op a b).2 ≡ false

module _ {V : Type 0} (o : Ops V) (r : Routine) (claims : Claims V) where
  right-at : (place : ℕ) → place_right o r claims place ≡ Ok tt → Right o r claims place (row_on r.rows place)
  right-at place e =
      stage (unwarned o r claims place (row_on r.rows place)) _ tt (λ _ quiet e₁.
      record {
        quiet = quiet;
        leads = λ w h. up-each (way_right o r claims place) (ways r.inputs (row_on r.rows place)) e₁ w h;
      }) e

  quiet_of : (place x : ℕ) (op : Op) (a b t : ℕ) → unwarned o r claims place (Work x op a b t) ≡ Ok tt → Quiet o op (claims.cell place a) (claims.cell place b)
  quiet_of place x op a b t e =
      let answer = o.works op (claims.cell place a) (claims.cell place b) in
      stage (unless (not answer.1) _) _ tt (λ _ first second.
      record {
        zero = not-true answer.1 (held (not answer.1) _ first);
        range = not-true answer.2 (held (not answer.2) _ second);
      }) e

-- one step from a state that the table describes
module _ {V : Type 0} (describes : V → ℤ → Type 0) (o : Ops V) (order : Order describes o) (working : Working describes o) (narrowing : Narrowing describes o)
    (r : Routine) (claims : Claims V) (made : WellMade r) (s : Spot) (k : Kept describes r claims s) where
  abbrev Named : Row → Type 0
  Named row = Names r.variables (length r.inputs) (length r.rows) row

  -- a work row that passes does not divide by 0, and its result is an integer of 32 bits
  no-zero-trap : (x : ℕ) (op : Op) (a b t : ℕ) → Named (Work x op a b t) → Right o r claims s.place (Work x op a b t) → zero_trap op (look_up s.locals a) (look_up s.locals b) ≡ false
  no-zero-trap x op a b t named right =
      working.zero_warned op (claims.cell s.place a) (claims.cell s.place b) (look_up s.locals a) (look_up s.locals b)
      (k.small a) (k.small b) (k.described.each a named.1) (k.described.each b named.2)
      (quiet_of o r claims s.place x op a b t right.quiet).zero

  no-range-trap : (x : ℕ) (op : Op) (a b t : ℕ) → Named (Work x op a b t) → Right o r claims s.place (Work x op a b t) → range_trap op (look_up s.locals a) (look_up s.locals b) ≡ false
  no-range-trap x op a b t named right =
      working.range_warned op (claims.cell s.place a) (claims.cell s.place b) (look_up s.locals a) (look_up s.locals b)
      (k.small a) (k.small b) (k.described.each a named.1) (k.described.each b named.2)
      (quiet_of o r claims s.place x op a b t right.quiet).range

  result-is : (x : ℕ) (op : Op) (a b t : ℕ) → Named (Work x op a b t) → Right o r claims s.place (Work x op a b t)
      → describes (o.works op (claims.cell s.place a) (claims.cell s.place b)).0 (exact op (look_up s.locals a) (look_up s.locals b))
  result-is x op a b t named right =
      working.result_described op (claims.cell s.place a) (claims.cell s.place b) (look_up s.locals a) (look_up s.locals b)
      (k.small a) (k.small b) (k.described.each a named.1) (k.described.each b named.2)
      (no-zero-trap x op a b t named right) (no-range-trap x op a b t named right)

  assigns : (row : Row) → Named row → Right o r claims s.place row → (n : ℤ) → Assigns s.locals (Kept describes r claims) n (means r.inputs row)
  assigns End named right n = tt
  assigns (Put x m t) named right n = λ e fits.
      let same : m ≡ n = eq-from-test (picked e) in
      put_on describes o order r claims s k made.few 0 x t (o.value m m) n named.0 fits
      (order.value_describes m m n named.1 named.1 (le_of_eq same) (le_of_eq (sym same)))
      (right.leads 0 (lit< tt))
  assigns (Take x i t) named right n = λ e fits.
      let input = input_on r.inputs i in
      let proper = made.inputs i in
      let b = between r.inputs i n (picked e) in
      put_on describes o order r claims s k made.few 0 x t (o.value input.lo input.hi) n named.0 fits
      (order.value_describes input.lo input.hi n proper.lo proper.hi b.low b.high)
      (right.leads 0 (lit< tt))
  assigns (Work x op a b t) named right n = λ e fits.
      let v = (o.works op (claims.cell s.place a) (claims.cell s.place b)).0 in
      put_on describes o order r claims s k made.few 0 x t v n named.0 fits
      (subst (describes v) (worked e).gives (result-is x op a b t named right))
      (right.leads 0 (lit< tt))
  assigns (Fork rel a b t u) named right n = tt

  holds_on : (row : Row) → Named row → Right o r claims s.place row → Holds s.locals (Kept describes r claims) (means r.inputs row)
  holds_on End named right = tt
  holds_on (Put x m t) named right = tt
  holds_on (Take x i t) named right = tt
  holds_on (Work x op a b t) named right = tt
  holds_on (Fork rel a b t u) named right = λ n e other.
      fork-on describes o order r claims s k made.few narrowing 0 rel a b t named.0 named.1
      (not-zero (holds rel (look_up s.locals a) (look_up s.locals b)) n (tested rel a b e) other)
      (right.leads 0 (lit< tt))

  fails-on : (row : Row) → Named row → Right o r claims s.place row → Fails s.locals (Kept describes r claims) (means r.inputs row)
  fails-on End named right = tt
  fails-on (Put x m t) named right = tt
  fails-on (Take x i t) named right = tt
  fails-on (Work x op a b t) named right = tt
  fails-on (Fork rel a b t u) named right = λ e.
      let x = look_up s.locals a in
      let y = look_up s.locals b in
      fork-on describes o order r claims s k made.few narrowing 1 (opposite rel) a b u named.0 named.1
      (holds-opposite rel x y ∙ not_from_false (holds rel x y) (is_zero (holds rel x y) (tested rel a b e)))
      (right.leads 1 (lit< tt))

  no_zero : (row : Row) → Named row → Right o r claims s.place row → NoZero s.locals (means r.inputs row)
  no_zero End named right = tt
  no_zero (Put x m t) named right = λ d. elim d [ ]
  no_zero (Take x i t) named right = λ d. elim d [ ]
  no_zero (Work x op a b t) named right = λ d. both_ways (zero_trap op (look_up s.locals a) (look_up s.locals b)) (no-zero-trap x op a b t named right) (divided d)
  no_zero (Fork rel a b t u) named right = tt

  no-range : (row : Row) → Named row → Right o r claims s.place row → NoRange s.locals (means r.inputs row)
  no-range End named right = tt
  no-range (Put x m t) named right = λ n e. subst Int32 (eq-from-test (picked e)) named.1
  no-range (Take x i t) named right = λ n e.
      let proper = made.inputs i in
      let b = between r.inputs i n (picked e) in
      record { low = le_trans proper.lo.low b.low; high = le_trans b.high proper.hi.high }
  no-range (Work x op a b t) named right = λ n e.
      subst Int32 (worked e).gives (in-range op (look_up s.locals a) (look_up s.locals b) (no-zero-trap x op a b t named right) (no-range-trap x op a b t named right))
  no-range (Fork rel a b t u) named right = tt

  -- wherever the step goes, the table describes it
  goes_on : (row : Row) → Named row → Right o r claims s.place row → (s' : Spot) → Goes r.inputs row s s' → Kept describes r claims s'
  goes_on row named right s' (assigned {n = n} m e fits) = subst (Assigns s.locals (Kept describes r claims) n) m (assigns row named right n) e fits
  goes_on row named right s' (branched {n = n} m e other) = subst (Holds s.locals (Kept describes r claims)) m (holds_on row named right) n e other
  goes_on row named right s' (failed m e) = subst (Fails s.locals (Kept describes r claims)) m (fails-on row named right) e

  -- and it does not trap
  no-trap : (row : Row) → Named row → Right o r claims s.place row → (t : Trap) → Traps r.inputs row s t → ⊥
  no-trap row named right t (zero_trapped m d) = subst (NoZero s.locals) m (no_zero row named right) d
  no-trap row named right t (range_trapped {n = n} m e out) = out (subst (NoRange s.locals) m (no-range row named right) n e)

-- a table that passes is inductive
module _ {V : Type 0} (describes : V → ℤ → Type 0) (o : Ops V) (order : Order describes o) (working : Working describes o) (narrowing : Narrowing describes o)
    (r : Routine) (claims : Claims V) (passes : Passes o r claims) where
  here-right : (s : Spot) → Kept describes r claims s → Right o r claims s.place (row_on r.rows s.place)
  here-right s k = right-at o r claims s.place (passes.places s.place k.described.here)

  -- it describes the start
  pub at-start : Kept describes r claims start
  at-start =
      stage (unless (claims.present 0) _) _ tt (λ _ there e.
      record {
        described = record {
          here = held (claims.present 0) _ there;
          each = λ x h.
              let covers = held (o.covers (claims.cell 0 x) (o.value (pos 0) (pos 0))) _
              (up-each (λ y. unless (o.covers (claims.cell 0 y) (o.value (pos 0) (pos 0))) (fixed (StartUncovered y))) r.variables e x h) in
              subst (describes (claims.cell 0 x)) (sym (start_is x))
              (order.covers_sound (claims.cell 0 x) (o.value (pos 0) (pos 0)) covers (pos 0) zero-small
              (order.value_describes (pos 0) (pos 0) (pos 0) zero-small zero-small (le_refl (pos 0)) (le_refl (pos 0))));
        };
        small = λ x. subst Int32 (sym (start_is x)) zero-small;
        sixteen = length-replicate 16 (pos 0);
      }) passes.starts

  -- every step keeps it
  pub inductive : (s s' : Spot) → Kept describes r claims s → Step r.inputs r.rows s s' → Kept describes r claims s'
  inductive s s' k step =
      goes_on describes o order working narrowing r claims passes.made s k
      (row_on r.rows s.place) (passes.made.rows s.place) (here-right s k) s' step

  -- no step from what it describes traps
  pub untrapped : (s : Spot) → Kept describes r claims s → (t : Trap) → Trapped r.inputs r.rows s t → ⊥
  untrapped s k t trap =
      no-trap describes o order working narrowing r claims passes.made s k
      (row_on r.rows s.place) (passes.made.rows s.place) (here-right s k) t trap

  -- so it describes every state that a run comes to
  pub always-kept : (s : Spot) → Reachable r s → Kept describes r claims s
  always-kept s stays = at-start
  always-kept s (onward {s = before} reach step) = inductive before s (always-kept before reach) step

  pub passes-safe : Safe describes r claims
  passes-safe = record {
    described = λ s reach. (always-kept s reach).described;
    untrapped = λ s reach. untrapped s (always-kept s reach);
  }
