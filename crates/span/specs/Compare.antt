-- What a comparison of spans gives is the least span of its results. Assumes nothing.
use Rattle.std.specs.Prelude.{◌≡◌, Bool, true, false, ℤ, pos, ◌≤ℤ◌, ◌<ℤ◌, Some, None, Decides, Option, ◌≢◌, int_le, int_lt, refl}
use Rattle.std.proofs.Common.{sym, ap, subst, ◌∙◌, ⊎_elim, arith}
use Rattle.std.specs.Int.{int_max}
use Rattle.std.proofs.lemmas.Int.{ints, clamps}
use Rattle.std.proofs.lemmas.Bool.{both_ways, and_parts, and_cases, or_cases, or_parts, not_from_true, not-false, not-true, cases_Bool}
use Rattle.number.specs.declared.Relation.{Relation}
use Rattle.number.specs.declared.Relation.TheVariants.{Less, AtMost, Equal, Unequal, Greater, AtLeast}
use Rattle.number.specs.Exact.{least, greatest, holds, opposite, truth, eq_z}
use Rattle.number.specs.Means.{Related}
use Rattle.number.proofs.Order.{le_refl, le-from-test, lt-from-test, lt-from-no-le, le-from-no-lt, test-from-eq, eq-from-test}
use Rattle.number.proofs.Meaning.{decides-holds, holds-opposite, opposes}
use Rattle.span.specs.declared.Span.{Span}
use Rattle.span.specs.Ends.{Within, spanned, or_whole}
use Rattle.span.specs.Works.{always, verdict, judged}
use Rattle.span.specs.Means.{LeastSpan, LeastOf, SomePair, EveryPair, Judged}
use Rattle.span.specs.Covering.{within-lo, within-hi}
use Rattle.span.specs.Narrow.{least_by}

-- the test for "always" says so
always-related : (rel : Relation) (a b : Span) → always rel a b ≡ true → EveryPair a b (Related rel)
always-related Less a b t x y p q = let h : a.hi <ℤ b.lo = lt-from-test t in omega (arith, ints, p.to, q.from)
always-related AtMost a b t x y p q = let h : a.hi ≤ℤ b.lo = le-from-test t in omega (arith, ints, p.to, q.from)
always-related Equal a b t x y p q =
    let h = and_parts (int_le a.hi b.lo) (int_le b.hi a.lo) t in
    let k : a.hi ≤ℤ b.lo = le-from-test h.0 in
    let l : b.hi ≤ℤ a.lo = le-from-test h.1 in
    omega (arith, ints, p.from, p.to, q.from, q.to)
always-related Unequal a b t x y p q = ⊎_elim
    (λ e. let h : a.hi <ℤ b.lo = lt-from-test e in omega (arith, ints, p.to, q.from))
    (λ e. let h : b.hi <ℤ a.lo = lt-from-test e in omega (arith, ints, p.from, q.to))
    (or_cases (int_lt a.hi b.lo) (int_lt b.hi a.lo) t)
always-related Greater a b t x y p q = let h : b.hi <ℤ a.lo = lt-from-test t in omega (arith, ints, p.from, q.to)
always-related AtLeast a b t x y p q = let h : b.hi ≤ℤ a.lo = le-from-test t in omega (arith, ints, p.from, q.to)

pub always-holds : (rel : Relation) (a b : Span) → always rel a b ≡ true → EveryPair a b (λ x y. holds rel x y ≡ true)
always-holds rel a b t x y p q = (decides-holds rel x y).1 (always-related rel a b t x y p q)

pair_of : (a b : Span) (so : ℤ → ℤ → Type 0) (x y : ℤ) → Within a x → Within b y → so x y → SomePair a b so
pair_of a b so x y p q h = record { x = x; y = y; in_a = p; in_b = q; pair = h }

unequal-test : (x y : ℤ) → (x ≢ y) → eq_z x y ≡ false
unequal-test x y n = ⊎_elim (λ e. absurd (n (eq-from-test e))) (λ e. e) (cases_Bool (eq_z x y))

-- where it fails, some pair is not so related
pub not-always : (rel : Relation) (a b : Span) → always rel a b ≡ false → SomePair a b (λ x y. holds rel x y ≡ false)
not-always Less a b t = pair_of a b (λ x y. holds Less x y ≡ false) a.hi b.lo (within-hi a) (within-lo b) t
not-always AtMost a b t = pair_of a b (λ x y. holds AtMost x y ≡ false) a.hi b.lo (within-hi a) (within-lo b) t
not-always Equal a b t = ⊎_elim
    (λ e. let h : b.lo <ℤ a.hi = lt-from-no-le a.hi b.lo e in pair_of a b (λ x y. holds Equal x y ≡ false) a.hi b.lo (within-hi a) (within-lo b) (unequal-test a.hi b.lo (omega (arith, ints))))
    (λ e. let h : a.lo <ℤ b.hi = lt-from-no-le b.hi a.lo e in pair_of a b (λ x y. holds Equal x y ≡ false) a.lo b.hi (within-lo a) (within-hi b) (unequal-test a.lo b.hi (omega (arith, ints))))
    (and_cases (int_le a.hi b.lo) (int_le b.hi a.lo) t)
not-always Unequal a b t =
    let e = or_parts (int_lt a.hi b.lo) (int_lt b.hi a.lo) t in
    let h : b.lo ≤ℤ a.hi = le-from-no-lt a.hi b.lo e.0 in
    let k : a.lo ≤ℤ b.hi = le-from-no-lt b.hi a.lo e.1 in
    let z = int_max a.lo b.lo in
    pair_of a b (λ x y. holds Unequal x y ≡ false) z z
    (record { from = omega (arith, ints, clamps); to = omega (arith, ints, clamps, a.ordered) })
    (record { from = omega (arith, ints, clamps); to = omega (arith, ints, clamps, b.ordered) })
    (not_from_true (eq_z z z) (test-from-eq {a = z} {b = z} refl))
not-always Greater a b t = pair_of a b (λ x y. holds Greater x y ≡ false) a.lo b.hi (within-lo a) (within-hi b) t
not-always AtLeast a b t = pair_of a b (λ x y. holds AtLeast x y ≡ false) a.lo b.hi (within-lo a) (within-hi b) t

-- "always" is every pair
pub decides-always : (rel : Relation) (a b : Span) → Decides (always rel a b) (EveryPair a b (Related rel))
decides-always rel a b = (
  always-related rel a b,
  λ all. ⊎_elim
      (λ t. t)
      (λ f. let w = not-always rel a b f in absurd (both_ways (holds rel w.x w.y) w.pair ((decides-holds rel w.x w.y).1 (all w.x w.y w.in_a w.in_b))))
      (cases_Bool (always rel a b)),
)

not-every : (rel : Relation) (a b : Span) → SomePair a b (λ x y. Related rel x y → ⊥) → always rel a b ≡ false
not-every rel a b w = ⊎_elim
    (λ t. absurd (w.pair (always-related rel a b t w.x w.y w.in_a w.in_b)))
    (λ f. f)
    (cases_Bool (always rel a b))

pub judged-judged : (rel : Relation) (a b : Span) → Judged rel a b (judged rel a b)
judged-judged rel a b = record {
  every = λ all. ap (λ t. verdict t (always (opposite rel) a b)) ((decides-always rel a b).1 all);
  none = λ no-pair.
      let f = not-every rel a b (record { x = a.lo; y = b.lo; in_a = within-lo a; in_b = within-lo b; pair = λ r. no-pair (record { x = a.lo; y = b.lo; in_a = within-lo a; in_b = within-lo b; pair = r }) }) in
      let t = (decides-always (opposite rel) a b).1 (λ x y p q. (opposes rel x y).1 (λ r. no-pair (record { x = x; y = y; in_a = p; in_b = q; pair = r }))) in
      ap (λ v. verdict v (always (opposite rel) a b)) f ∙ ap (verdict false) t;
  mixed = λ w n.
      let f = not-every rel a b n in
      let g = not-every (opposite rel) a b (record { x = w.x; y = w.y; in_a = w.in_a; in_b = w.in_b; pair = λ o. (opposes rel w.x w.y).0 o w.pair }) in
      ap (λ v. verdict v (always (opposite rel) a b)) f ∙ ap (verdict false) g;
}

-- the results of a comparison
abbrev pub Truths : Relation → Span → Span → ℤ → Type 0
Truths rel a b z = SomePair a b (λ x y. z ≡ truth (holds rel x y))

pub or-whole-least : (set : ℤ → Type 0) (o : Option Span) (z : ℤ) → LeastOf set o → set z → LeastSpan set (or_whole o)
or-whole-least set (Some s) z h w = h
or-whole-least set None z h w = absurd (h z w)

module _ (rel : Relation) (a b : Span) where
  truth-of : (t : Bool) → SomePair a b (λ x y. holds rel x y ≡ t) → Truths rel a b (truth t)
  truth-of t s = pair_of a b (λ x y. truth t ≡ truth (holds rel x y)) s.x s.y s.in_a s.in_b (ap truth (sym s.pair))

  corner : (t : Bool) → EveryPair a b (λ x y. holds rel x y ≡ t) → SomePair a b (λ x y. holds rel x y ≡ t)
  corner t all = pair_of a b (λ x y. holds rel x y ≡ t) a.lo b.lo (within-lo a) (within-lo b) (all a.lo b.lo (within-lo a) (within-lo b))

  -- one truth value throughout
  settled : (t : Bool) → EveryPair a b (λ x y. holds rel x y ≡ t) → least ≤ℤ truth t → truth t ≤ℤ greatest → LeastSpan (Truths rel a b) (or_whole (spanned (truth t) (truth t)))
  settled t all low high =
      let here = truth-of t (corner t all) in
      or-whole-least (Truths rel a b) (spanned (truth t) (truth t)) (truth t)
      (least_by (Truths rel a b) (truth t) (truth t) low high
      (λ z h. let e : z ≡ truth t = h.pair ∙ ap truth (all h.x h.y h.in_a h.in_b) in (subst (λ v. truth t ≤ℤ v) (sym e) (le_refl (truth t)), subst (λ v. v ≤ℤ truth t) (sym e) (le_refl (truth t))))
      (λ _. (here, here)))
      here

  truth-range : (t : Bool) → (pos 0 ≤ℤ truth t) × (truth t ≤ℤ pos 1)
  truth-range true = (omega (arith, ints), omega (arith, ints))
  truth-range false = (omega (arith, ints), omega (arith, ints))

  -- both truth values
  open-ended : Truths rel a b (pos 0) → Truths rel a b (pos 1) → LeastSpan (Truths rel a b) (or_whole (spanned (pos 0) (pos 1)))
  open-ended zero one = or-whole-least (Truths rel a b) (spanned (pos 0) (pos 1)) (pos 0)
      (least_by (Truths rel a b) (pos 0) (pos 1) (omega (arith, ints)) (omega (arith, ints))
      (λ z h. let r = truth-range (holds rel h.x h.y) in (subst (λ v. pos 0 ≤ℤ v) (sym h.pair) r.0, subst (λ v. v ≤ℤ pos 1) (sym h.pair) r.1))
      (λ _. (zero, one)))
      zero

  judged-by : (t u : Bool) → always rel a b ≡ t → always (opposite rel) a b ≡ u → LeastSpan (Truths rel a b) (verdict t u)
  judged-by true u e f = settled true (always-holds rel a b e) (omega (arith, ints)) (omega (arith, ints))
  judged-by false true e f = settled false
      (λ x y p q. not-true (holds rel x y) (sym (holds-opposite rel x y) ∙ always-holds (opposite rel) a b f x y p q))
      (omega (arith, ints)) (omega (arith, ints))
  judged-by false false e f =
      let w = not-always (opposite rel) a b f in
      open-ended
      (truth-of false (not-always rel a b e))
      (truth-of true (pair_of a b (λ x y. holds rel x y ≡ true) w.x w.y w.in_a w.in_b (not-false (holds rel w.x w.y) (sym (holds-opposite rel w.x w.y) ∙ w.pair))))

  pub judged-least : LeastSpan (Truths rel a b) (judged rel a b)
  judged-least = judged-by (always rel a b) (always (opposite rel) a b) refl refl
