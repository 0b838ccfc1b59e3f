-- What narrowing a span leaves is the least span of the integers that stand in the relation. Assumes nothing.
use Rattle.std.specs.Prelude.{◌≡◌, Bool, true, false, ℤ, pos, ◌+ℤ◌, ◌-ℤ◌, ◌≤ℤ◌, Option, ◌≢◌, refl}
use Rattle.std.proofs.Common.{sym, subst, ⊎_elim, arith}
use Rattle.std.specs.Int.{int_min, int_max}
use Rattle.std.proofs.lemmas.Int.{ints, clamps}
use Rattle.std.proofs.lemmas.Bool.{both_ways, and_parts, and_cases}
use Rattle.number.specs.declared.Relation.{Relation}
use Rattle.number.specs.declared.Relation.TheVariants.{Less, AtMost, Equal, Unequal, Greater, AtLeast}
use Rattle.number.specs.Exact.{least, greatest, eq_z, truth}
use Rattle.number.proofs.Order.{le_refl, le_trans, eq-from-test, test-from-eq}
use Rattle.span.specs.declared.Span.{Span}
use Rattle.span.specs.Ends.{Within, are_ends, spanned}
use Rattle.span.specs.Works.{only, narrowed}
use Rattle.span.specs.Means.{LeastSpan, LeastOf, Left}
use Rattle.span.specs.Made.{Made, one, none, spanned-made, are_ends-ordered}
use Rattle.span.specs.Covering.{within-lo, within-hi}

-- a span that holds a set, and whose ends belong to it, is the least
pub least-by-ends : (set : ℤ → Type 0) (s : Span) → ((z : ℤ) → set z → Within s z) → set s.lo → set s.hi → LeastSpan set s
least-by-ends set s all lo hi = record { all = all; fewest = λ t holds. ((holds s.lo lo).from, (holds s.hi hi).to) }

-- so is the span from lo to hi, if it holds the set, and they belong to it where they are in order
pub least_by : (set : ℤ → Type 0) (lo hi : ℤ) → least ≤ℤ lo → hi ≤ℤ greatest → ((z : ℤ) → set z → (lo ≤ℤ z) × (z ≤ℤ hi)) → (lo ≤ℤ hi → set lo × set hi) → LeastOf set (spanned lo hi)
least_by set lo hi low high all ends = go (spanned-made lo hi)
  where
    go : {o : Option Span} → Made lo hi o → LeastOf set o
    go (one s p q) =
        let order : lo ≤ℤ hi = subst (λ (l : ℤ). l ≤ℤ hi) p (subst (λ (h : ℤ). s.lo ≤ℤ h) q s.ordered) in
        least-by-ends set s
        (λ z h. record { from = subst (λ (l : ℤ). l ≤ℤ z) (sym p) (all z h).0; to = subst (λ (u : ℤ). z ≤ℤ u) (sym q) (all z h).1 })
        (subst set (sym p) (ends order).0)
        (subst set (sym q) (ends order).1)
    go (none n) = λ z h. both_ways (are_ends lo hi) n (are_ends-ordered low (le_trans (all z h).0 (all z h).1) high)

within : (s : Span) (z : ℤ) → s.lo ≤ℤ z → z ≤ℤ s.hi → Within s z
within s z p q = record { from = p; to = q }

module _ (a b : Span) where
  less : LeastOf (Left a Less b) (spanned a.lo (int_min a.hi (b.hi -ℤ pos 1)))
  less = least_by (Left a Less b) a.lo (int_min a.hi (b.hi -ℤ pos 1)) a.low (omega (arith, ints, clamps, a.high))
      (λ z h. (h.in_a.from, omega (arith, ints, clamps, h.in_a.to, h.in_b.to, h.related)))
      (λ e. (
        record { in_a = within-lo a; y = b.hi; in_b = within-hi b; related = omega (arith, ints, clamps) },
        record { in_a = within a _ e (omega (arith, ints, clamps)); y = b.hi; in_b = within-hi b; related = omega (arith, ints, clamps) },
      ))

  at_most : LeastOf (Left a AtMost b) (spanned a.lo (int_min a.hi b.hi))
  at_most = least_by (Left a AtMost b) a.lo (int_min a.hi b.hi) a.low (omega (arith, ints, clamps, a.high))
      (λ z h. (h.in_a.from, omega (arith, ints, clamps, h.in_a.to, h.in_b.to, h.related)))
      (λ e. (
        record { in_a = within-lo a; y = b.hi; in_b = within-hi b; related = omega (arith, ints, clamps) },
        record { in_a = within a _ e (omega (arith, ints, clamps)); y = b.hi; in_b = within-hi b; related = omega (arith, ints, clamps) },
      ))

  greater : LeastOf (Left a Greater b) (spanned (int_max a.lo (b.lo +ℤ pos 1)) a.hi)
  greater = least_by (Left a Greater b) (int_max a.lo (b.lo +ℤ pos 1)) a.hi (omega (arith, ints, clamps, a.low)) a.high
      (λ z h. (omega (arith, ints, clamps, h.in_a.from, h.in_b.from, h.related), h.in_a.to))
      (λ e. (
        record { in_a = within a _ (omega (arith, ints, clamps)) e; y = b.lo; in_b = within-lo b; related = omega (arith, ints, clamps) },
        record { in_a = within-hi a; y = b.lo; in_b = within-lo b; related = omega (arith, ints, clamps) },
      ))

  at_least : LeastOf (Left a AtLeast b) (spanned (int_max a.lo b.lo) a.hi)
  at_least = least_by (Left a AtLeast b) (int_max a.lo b.lo) a.hi (omega (arith, ints, clamps, a.low)) a.high
      (λ z h. (omega (arith, ints, clamps, h.in_a.from, h.in_b.from, h.related), h.in_a.to))
      (λ e. (
        record { in_a = within a _ (omega (arith, ints, clamps)) e; y = b.lo; in_b = within-lo b; related = omega (arith, ints, clamps) },
        record { in_a = within-hi a; y = b.lo; in_b = within-lo b; related = omega (arith, ints, clamps) },
      ))

  -- an integer of both is related to itself
  shared : (z : ℤ) → int_max a.lo b.lo ≤ℤ z → z ≤ℤ int_min a.hi b.hi → Left a Equal b z
  shared z p q = record {
    in_a = within a z (omega (arith, ints, clamps)) (omega (arith, ints, clamps));
    y = z;
    in_b = within b z (omega (arith, ints, clamps)) (omega (arith, ints, clamps));
    related = refl;
  }

  equal : LeastOf (Left a Equal b) (spanned (int_max a.lo b.lo) (int_min a.hi b.hi))
  equal = least_by (Left a Equal b) (int_max a.lo b.lo) (int_min a.hi b.hi) (omega (arith, ints, clamps, a.low)) (omega (arith, ints, clamps, a.high))
      (λ z h. (omega (arith, ints, clamps, h.in_a.from, h.in_b.from, h.related), omega (arith, ints, clamps, h.in_a.to, h.in_b.to, h.related)))
      (λ e. (shared _ (le_refl _) e, shared _ e (le_refl _)))

  -- b describes z alone, or something else too
  alone : (z : ℤ) → only b z ≡ true → (b.lo ≡ z) × (b.hi ≡ z)
  alone z e = let p = and_parts (eq_z b.lo z) (eq_z b.hi z) e in (eq-from-test p.0, eq-from-test p.1)

  differs : (x y : ℤ) → eq_z x y ≡ false → y ≢ x
  differs x y e p = both_ways (eq_z x y) e (test-from-eq (sym p))

  other : (z : ℤ) → only b z ≡ false → (y : ℤ) × Within b y × (z ≢ y)
  other z e = ⊎_elim
      (λ f. (b.lo, within-lo b, differs b.lo z f))
      (λ f. (b.hi, within-hi b, differs b.hi z f))
      (and_cases (eq_z b.lo z) (eq_z b.hi z) e)

  from-lo : (t : Bool) → only b a.lo ≡ t → (a.lo +ℤ truth t) ≤ℤ a.hi → Left a Unequal b (a.lo +ℤ truth t)
  from-lo true e h =
      let p = alone a.lo e in
      record { in_a = within a _ (omega (arith, ints)) h; y = b.lo; in_b = within-lo b; related = omega (arith, ints, p.0) }
  from-lo false e h =
      let o = other a.lo e in
      record { in_a = within a _ (omega (arith, ints)) h; y = o.0; in_b = o.1; related = λ q. o.2 (omega (arith, ints)) }

  from-hi : (t : Bool) → only b a.hi ≡ t → a.lo ≤ℤ (a.hi -ℤ truth t) → Left a Unequal b (a.hi -ℤ truth t)
  from-hi true e h =
      let p = alone a.hi e in
      record { in_a = within a _ h (omega (arith, ints)); y = b.lo; in_b = within-lo b; related = omega (arith, ints, p.0) }
  from-hi false e h =
      let o = other a.hi e in
      record { in_a = within a _ h (omega (arith, ints)); y = o.0; in_b = o.1; related = λ q. o.2 (omega (arith, ints)) }

  past-lo : (t : Bool) → only b a.lo ≡ t → (z : ℤ) → Left a Unequal b z → (a.lo +ℤ truth t) ≤ℤ z
  past-lo true e z h = let p = alone a.lo e in omega (arith, ints, p.0, p.1, h.in_a.from, h.in_b.from, h.in_b.to, h.related)
  past-lo false e z h = omega (arith, ints, h.in_a.from)

  before-hi : (t : Bool) → only b a.hi ≡ t → (z : ℤ) → Left a Unequal b z → z ≤ℤ (a.hi -ℤ truth t)
  before-hi true e z h = let p = alone a.hi e in omega (arith, ints, p.0, p.1, h.in_a.to, h.in_b.from, h.in_b.to, h.related)
  before-hi false e z h = omega (arith, ints, h.in_a.to)

  more : (t : Bool) (z : ℤ) → z ≤ℤ (z +ℤ truth t)
  more true z = omega (arith, ints)
  more false z = omega (arith, ints)

  fewer : (t : Bool) (z : ℤ) → (z -ℤ truth t) ≤ℤ z
  fewer true z = omega (arith, ints)
  fewer false z = omega (arith, ints)

  unequal : LeastOf (Left a Unequal b) (spanned (a.lo +ℤ truth (only b a.lo)) (a.hi -ℤ truth (only b a.hi)))
  unequal =
      let t = only b a.lo in
      let u = only b a.hi in
      least_by (Left a Unequal b) (a.lo +ℤ truth t) (a.hi -ℤ truth u)
      (le_trans a.low (more t a.lo))
      (le_trans (fewer u a.hi) a.high)
      (λ z h. (past-lo t refl z h, before-hi u refl z h))
      (λ e. (from-lo t refl (le_trans e (fewer u a.hi)), from-hi u refl (le_trans (more t a.lo) e)))

-- what narrowing answers is the least span of what is left, or none where nothing is
pub narrowed-least : (a : Span) (rel : Relation) (b : Span) → LeastOf (Left a rel b) (narrowed a rel b)
narrowed-least a Less b = less a b
narrowed-least a AtMost b = at_most a b
narrowed-least a Equal b = equal a b
narrowed-least a Unequal b = unequal a b
narrowed-least a Greater b = greater a b
narrowed-least a AtLeast b = at_least a b

pub narrowed-as : (a : Span) (rel : Relation) (b : Span) (r : Option Span) → r ≡ narrowed a rel b → record { value : r ≡ narrowed a rel b; means : LeastOf (Left a rel b) r }
narrowed-as a rel b r e = record { value = e; means = subst (LeastOf (Left a rel b)) (sym e) (narrowed-least a rel b) }
