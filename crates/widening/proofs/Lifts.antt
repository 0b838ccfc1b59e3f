-- The check over claims that say nothing in a second domain. Assumes that this domain's "anything" covers every value.
use Rattle.std.proofs.Common.{◌≡◌, ℕ, zero, suc, ◌<◌, Bool, true, false, cond, not, ◌&&◌, eqb, List, pos, Some, None, Ok, Option, sym, refl, ap, ◌∙◌, subst}
use Rattle.std.proofs.lemmas.Bool.{and_parts, and_from, and_left, not-true, not_from_false}
use Rattle.scan.specs.Scan.{and_then, Check, unless, up_to}
use Rattle.scan.proofs.Scans.{up-each, up-all, held, passes, stage, then-on}
use Rattle.number.specs.Exact.{mirrored, opposite}
use Rattle.number.specs.declared.Relation.{Relation}
use Rattle.machine.specs.Runs.{row_on}
use Rattle.machine.specs.declared.Input.{Input}
use Rattle.machine.specs.declared.Row.{Row}
use Rattle.machine.specs.declared.Row.TheVariants.{End, Put, Take, Work, Fork}
use Rattle.sheet.specs.declared.refusals.Refusal.TheVariants.{ZeroWarning, RangeWarning}
use Rattle.domain.specs.Model.{Ops}
use Rattle.layers.specs.declared.pair.Pair.{Pair}
use Rattle.layers.specs.Pairs.{both_of, pair_ops}
use Rattle.rules.specs.Claims.{Claims}
use Rattle.rules.specs.Faults.{fixed}
use Rattle.rules.specs.Ways.{Way, pass, go, changed, meeting, fork_way, way, ways}
use Rattle.rules.specs.Checks.{Routine, all_below, start_right, unwarned, covered, lands, way_right, place_right, places_right}

-- each cell with the same value of the second domain
abbrev pub lifted : {A B : Type 0} → B → Claims A → Claims (Pair A B)
lifted b c = record { present = c.present; cell = λ place x. record { first = c.cell place x; second = b } }

-- values, each with the same one of the second domain
abbrev beside : {A B : Type 0} → B → (ℕ → A) → ℕ → Pair A B
beside b cells x = record { first = cells x; second = b }

-- a scan that asks no more passes too
pub up-on : {E : Type 0} (f g : ℕ → Check E) (n : ℕ) → ((i : ℕ) → i < n → f i ≡ Ok tt → g i ≡ Ok tt) → up_to f n ≡ Ok tt → up_to g n ≡ Ok tt
up-on f g n on all = up-all g n (λ i h. on i h (up-each f n all i h))

all-on : (f g : ℕ → Bool) (n : ℕ) → ((i : ℕ) → f i ≡ true → g i ≡ true) → all_below f n ≡ true → all_below g n ≡ true
all-on f g zero on all = refl
all-on f g (suc n) on all =
    let both = and_parts (all_below f n) (f n) all in
    and_from (all_below g n) (g n) (all-on f g n on both.0) (on n both.1)

-- two checks in a row that ask no more
pub then-kept : {E : Type 0} (c d : Check E) (f g : Check E) → (c ≡ Ok tt → d ≡ Ok tt) → (f ≡ Ok tt → g ≡ Ok tt)
    → and_then c (λ _. f) ≡ Ok tt → and_then d (λ _. g) ≡ Ok tt
then-kept c d f g first second e = stage c (λ _. f) tt (λ _ a b. then-on d (λ _. g) tt (Ok tt) (first a) (second b)) e

pub test-kept : {E : Type 0} (b c : Bool) (x y : E) → (b ≡ true → c ≡ true) → unless b x ≡ Ok tt → unless c y ≡ Ok tt
test-kept b c x y on e = passes c y (on (held b x e))

pub where-present : {E : Type 0} (b : Bool) (c d : Check E) → (c ≡ Ok tt → d ≡ Ok tt) → cond b c (Ok tt) ≡ Ok tt → cond b d (Ok tt) ≡ Ok tt
where-present true c d on e = on e
where-present false c d on e = refl

unwarned-both : (v w : Bool) → not v ≡ true → not (v && w) ≡ true
unwarned-both v w h = not_from_false (v && w) (and_left v w (not-true v h))

-- where two warn together they warn no more than the first
warned-kept : {E : Type 0} (x y : E) (v v' w w' : Bool) → and_then (unless (not v) x) (λ _. unless (not w) y) ≡ Ok tt
    → and_then (unless (not (v && v')) x) (λ _. unless (not (w && w')) y) ≡ Ok tt
warned-kept x y v v' w w' = then-kept _ _ _ _ (test-kept (not v) (not (v && v')) x x (unwarned-both v v')) (test-kept (not w) (not (w && w')) y y (unwarned-both w w'))

-- a way of the pair follows one of the first domain: it is passed over, or goes where that goes, with its values
abbrev Follows : {A B : Type 0} → Way A → Way (Pair A B) → Type 0
Follows pass pass = Unit {0}
Follows pass (go t v) = ⊥
Follows (go t v) pass = Unit {0}
Follows (go t v) (go u w) = (t ≡ u) × ((x : ℕ) → (w x).first ≡ v x)

first_of : {A B : Type 0} (b : Bool) (v : Pair A B) (w : Pair A B) → (cond b v w).first ≡ cond b v.first w.first
first_of true v w = refl
first_of false v w = refl

-- the values with one changed, in the pair and in the first domain
changed-first : {A B : Type 0} (cells : ℕ → A) (wide : ℕ → Pair A B) → ((y : ℕ) → (wide y).first ≡ cells y) → (x : ℕ) (v : Pair A B) (y : ℕ)
    → (changed wide x v y).first ≡ changed cells x v.first y
changed-first cells wide same x v y = first_of (eqb y x) v (wide y) ∙ ap (cond (eqb y x) v.first) (same y)

module _ {A B : Type 0} (p : Ops A) (q : Ops B) where
  follows-met : (t a b : ℕ) (cells : ℕ → A) (wide : ℕ → Pair A B) → ((y : ℕ) → (wide y).first ≡ cells y) → (v w : Option A) (m n : Option B)
      → Follows (meeting p t cells a b v w) (meeting (pair_ops p q) t wide a b (both_of v m) (both_of w n))
  follows-met t a b cells wide same None w m n = tt
  follows-met t a b cells wide same (Some v) None None n = tt
  follows-met t a b cells wide same (Some v) None (Some m) n = tt
  follows-met t a b cells wide same (Some v) (Some w) None n = tt
  follows-met t a b cells wide same (Some v) (Some w) (Some m) None = tt
  follows-met t a b cells wide same (Some v) (Some w) (Some m) (Some n) =
      (refl, changed-first (changed cells a v) (changed wide a (record { first = v; second = m })) (changed-first cells wide same a (record { first = v; second = m })) b (record { first = w; second = n }))

  follows-either : (t : Bool) (v w : Way A) (m n : Way (Pair A B)) → Follows v m → Follows w n → Follows (cond t v w) (cond t m n)
  follows-either true v w m n h k = h
  follows-either false v w m n h k = k

  -- a fork, from cells that say nothing in the second domain
  follows-fork : (cells : ℕ → A) (rel : Relation) (a b t : ℕ) → Follows (fork_way p cells rel a b t) (fork_way (pair_ops p q) (beside q.anything cells) rel a b t)
  follows-fork cells rel a b t =
      follows-either (eqb a b) (go t cells) _ (go t (beside q.anything cells)) _ (refl, λ _. refl)
      (follows-met t a b cells (beside q.anything cells) (λ _. refl)
      (p.narrows (cells a) rel (cells b)) (p.narrows (cells b) (mirrored rel) (cells a))
      (q.narrows q.anything rel q.anything) (q.narrows q.anything (mirrored rel) q.anything))

  follows-way : (inputs : List Input) (row : Row) (cells : ℕ → A) (w : ℕ) → Follows (way p inputs row cells w) (way (pair_ops p q) inputs row (beside q.anything cells) w)
  follows-way inputs End cells w = tt
  follows-way inputs (Put x n t) cells w = (refl, changed-first cells (beside q.anything cells) (λ _. refl) x _)
  follows-way inputs (Take x k t) cells w = (refl, changed-first cells (beside q.anything cells) (λ _. refl) x _)
  follows-way inputs (Work x op a b t) cells w = (refl, changed-first cells (beside q.anything cells) (λ _. refl) x _)
  follows-way inputs (Fork rel a b t u) cells zero = follows-fork cells rel a b t
  follows-way inputs (Fork rel a b t u) cells (suc w) = follows-fork cells (opposite rel) a b u

  module _ (any : (b : B) → q.covers q.anything b ≡ true) (r : Routine) (claims : Claims A) where
    pub start-kept : start_right p r claims ≡ Ok tt → start_right (pair_ops p q) r (lifted q.anything claims) ≡ Ok tt
    start-kept = then-kept _ _ _ _ (λ e. e)
        (up-on _ _ r.variables (λ x h. test-kept _ _ _ _ (λ e. and_from _ _ e (any (q.value (pos 0) (pos 0))))))

    unwarned-kept : (place : ℕ) (row : Row) → unwarned p r claims place row ≡ Ok tt → unwarned (pair_ops p q) r (lifted q.anything claims) place row ≡ Ok tt
    unwarned-kept place End e = refl
    unwarned-kept place (Put x n t) e = refl
    unwarned-kept place (Take x k t) e = refl
    unwarned-kept place (Work x op a b t) e =
        let first = p.works op (claims.cell place a) (claims.cell place b) in
        let second = q.works op q.anything q.anything in
        warned-kept (fixed (ZeroWarning place)) (fixed (RangeWarning place)) first.1 second.1 first.2 second.2 e
    unwarned-kept place (Fork rel a b t u) e = refl

    lands-there : (place w t : ℕ) (v : ℕ → A) (m : ℕ → Pair A B) → ((x : ℕ) → (m x).first ≡ v x)
        → lands p r claims place w (go t v) ≡ Ok tt → lands (pair_ops p q) r (lifted q.anything claims) place w (go t m) ≡ Ok tt
    lands-there place w t v m same = then-kept _ _ _ _ (λ e. e)
        (test-kept _ _ _ _ (all-on (covered p r claims t v) (covered (pair_ops p q) r (lifted q.anything claims) t m) r.variables
        (λ x e. and_from _ _ (subst (λ y. p.covers (claims.cell t x) y ≡ true) (sym (same x)) e) (any (m x).second))))

    lands-kept : (place w : ℕ) (v : Way A) (m : Way (Pair A B)) → Follows v m → lands p r claims place w v ≡ Ok tt → lands (pair_ops p q) r (lifted q.anything claims) place w m ≡ Ok tt
    lands-kept place w pass pass f e = refl
    lands-kept place w pass (go u m) f e = absurd f
    lands-kept place w (go t v) pass f e = refl
    lands-kept place w (go t v) (go u m) f e = subst (λ z. lands (pair_ops p q) r (lifted q.anything claims) place w (go z m) ≡ Ok tt) f.0 (lands-there place w t v m f.1 e)

    way-kept : (place w : ℕ) → way_right p r claims place w ≡ Ok tt → way_right (pair_ops p q) r (lifted q.anything claims) place w ≡ Ok tt
    way-kept place w = lands-kept place w _ _ (follows-way r.inputs (row_on r.rows place) (claims.cell place) w)

    place_kept : (place : ℕ) → place_right p r claims place ≡ Ok tt → place_right (pair_ops p q) r (lifted q.anything claims) place ≡ Ok tt
    place_kept place = then-kept _ _ _ _ (unwarned-kept place (row_on r.rows place))
        (up-on (way_right p r claims place) (way_right (pair_ops p q) r (lifted q.anything claims) place) (ways r.inputs (row_on r.rows place)) (λ w h. way-kept place w))

    pub places-kept : (places : ℕ) → places_right p r claims places ≡ Ok tt → places_right (pair_ops p q) r (lifted q.anything claims) places ≡ Ok tt
    places-kept places = up-on _ _ places (λ place h. where-present (claims.present place) _ _ (place_kept place))
