-- What working an operation on spans answers: exact warnings, and the least span of the results. Assumes nothing.
use Rattle.std.specs.Prelude.{◌≡◌, zero, suc, ◌/◌, ◌<◌, ◌≤◌, Bool, true, false, cond, not, ◌&&◌, ◌⊎◌, ℤ, pos, negsuc, ◌≤ℤ◌, ◌<ℤ◌, Decides, Option, ◌≢◌, int_div, int_lt, refl}
use Rattle.std.proofs.Common.{sym, subst, ◌∙◌, inl, inr, ⊎_elim, div-le_self, div-one, arith}
use Rattle.std.proofs.Math.Nat.{div-lt_self}
use Rattle.std.specs.Int.{int_min, int_max}
use Rattle.std.proofs.lemmas.Int.{ints, clamps}
use Rattle.std.proofs.lemmas.Bool.{both_ways, and_parts, and_from, not-true, not_from_false, cases_Bool, cases_lt}
use Rattle.arith.specs.Corners.{Cornered}
use Rattle.arith.proofs.Bounds.{sum-corners, difference-corners, product-corners, quotient-corners}
use Rattle.number.specs.declared.Op.{Op}
use Rattle.number.specs.declared.Op.TheVariants.{Add, Sub, Mul, Div, IsLess, IsAtMost, IsEqual, IsUnequal}
use Rattle.number.specs.declared.Relation.{Relation}
use Rattle.number.specs.declared.Relation.TheVariants.{Less, AtMost, Equal, Unequal}
use Rattle.number.specs.Exact.{least, greatest, Int32, fits32, eq_z, exact, zero_trap, range_trap, truth, holds}
use Rattle.number.proofs.Order.{le_trans, le-or-lt, lt_not_le, fits-from-test, test-from-fits, eq-from-test, test-from-eq}
use Rattle.span.specs.declared.Span.{Span}
use Rattle.span.specs.Ends.{Within, are_ends, has, or_whole}
use Rattle.span.specs.Works.{lowest, highest, cornered, ranged, warned, judged, works}
use Rattle.span.specs.Means.{LeastSpan, LeastOf, SomePair, Results, Worked, Compared}
use Rattle.span.specs.Made.{Made, one, none, spanned-made, are_ends-ordered}
use Rattle.span.specs.Covering.{within-lo, within-hi, decides-has}
use Rattle.span.specs.Narrow.{least_by, least-by-ends}
use Rattle.span.specs.Compare.{or-whole-least, judged-least, judged-judged}

-- ---- integers of a span are of 32 bits

pub int32-within : (s : Span) (z : ℤ) → Within s z → Int32 z
int32-within s z h = record { low = le_trans s.low h.from; high = le_trans h.to s.high }

-- ---- the traps

pub range_trap-unfit : (op : Op) (x y : ℤ) → zero_trap op x y ≡ false → (Int32 (exact op x y) → ⊥) → range_trap op x y ≡ true
range_trap-unfit op x y z n =
    and_from (not (zero_trap op x y)) (not (fits32 (exact op x y))) (not_from_false (zero_trap op x y) z)
    (not_from_false (fits32 (exact op x y)) (⊎_elim (λ t. absurd (n (fits-from-test t))) (λ f. f) (cases_Bool (fits32 (exact op x y)))))

pub no-range-trap : (op : Op) (x y : ℤ) → Int32 (exact op x y) → range_trap op x y ≢ true
no-range-trap op x y h t =
    both_ways (fits32 (exact op x y)) (not-true (fits32 (exact op x y)) (and_parts (not (zero_trap op x y)) (not (fits32 (exact op x y))) t).1) (test-from-fits h)

-- ---- the least and the greatest of four

pick-min : (P : ℤ → Type 0) (x y : ℤ) → P x → P y → P (int_min x y)
pick-min P x y p q = elim (int_lt y x) as (λ t. P (cond t y x)) [ true ↦ q | false ↦ p ]

pick-max : (P : ℤ → Type 0) (x y : ℤ) → P x → P y → P (int_max x y)
pick-max P x y p q = elim (int_lt y x) as (λ t. P (cond t x y)) [ true ↦ p | false ↦ q ]

four_low : (w x y z : ℤ) → (int_min (int_min w x) (int_min y z) ≤ℤ w) × (int_min (int_min w x) (int_min y z) ≤ℤ x) × (int_min (int_min w x) (int_min y z) ≤ℤ y) × (int_min (int_min w x) (int_min y z) ≤ℤ z)
four_low w x y z = (omega (arith, ints, clamps), omega (arith, ints, clamps), omega (arith, ints, clamps), omega (arith, ints, clamps))

four-high : (w x y z : ℤ) → (w ≤ℤ int_max (int_max w x) (int_max y z)) × (x ≤ℤ int_max (int_max w x) (int_max y z)) × (y ≤ℤ int_max (int_max w x) (int_max y z)) × (z ≤ℤ int_max (int_max w x) (int_max y z))
four-high w x y z = (omega (arith, ints, clamps), omega (arith, ints, clamps), omega (arith, ints, clamps), omega (arith, ints, clamps))

module _ (op : Op) (a b : Span) where
  -- what holds of the four results holds of the least and the greatest
  of-corners : (P : ℤ → Type 0) → ((x y : ℤ) → Within a x → Within b y → P (exact op x y)) → P (lowest (exact op) a b) × P (highest (exact op) a b)
  of-corners P each =
      let ll = each a.lo b.lo (within-lo a) (within-lo b) in
      let lh = each a.lo b.hi (within-lo a) (within-hi b) in
      let hl = each a.hi b.lo (within-hi a) (within-lo b) in
      let hh = each a.hi b.hi (within-hi a) (within-hi b) in
      (pick-min P _ _ (pick-min P _ _ ll lh) (pick-min P _ _ hl hh), pick-max P _ _ (pick-max P _ _ ll lh) (pick-max P _ _ hl hh))

  reached : Results op a b (lowest (exact op) a b) × Results op a b (highest (exact op) a b)
  reached = of-corners (Results op a b) (λ x y p q. record { x = x; y = y; in_a = p; in_b = q; pair = refl })

  bounds : Cornered (exact op) a.lo a.hi b.lo b.hi → (z : ℤ) → Results op a b z → (lowest (exact op) a b ≤ℤ z) × (z ≤ℤ highest (exact op) a b)
  bounds c z h =
      let f = exact op in
      let l = four_low (f a.lo b.lo) (f a.lo b.hi) (f a.hi b.lo) (f a.hi b.hi) in
      let u = four-high (f a.lo b.lo) (f a.lo b.hi) (f a.hi b.lo) (f a.hi b.hi) in (
        subst (λ v. lowest f a b ≤ℤ v) (sym h.pair) (c.above (lowest f a b) h.x h.y h.in_a.from h.in_a.to h.in_b.from h.in_b.to l.0 l.1 l.2 l.3),
        subst (λ v. v ≤ℤ highest f a b) (sym h.pair) (c.below (highest f a b) h.x h.y h.in_a.from h.in_a.to h.in_b.from h.in_b.to u.0 u.1 u.2 u.3),
      )

  -- the span between the corners is the least span of the results
  cornered-least : Cornered (exact op) a.lo a.hi b.lo b.hi → least ≤ℤ lowest (exact op) a b → highest (exact op) a b ≤ℤ greatest → LeastOf (Results op a b) (cornered op a b)
  cornered-least c low high = least_by (Results op a b) (lowest (exact op) a b) (highest (exact op) a b) low high (bounds c) (λ _. reached)

never : {P : Type 0} → (P → ⊥) → Decides false P
never n = (λ t. absurd (both_ways false refl t), λ p. absurd (n p))

surely : {P : Type 0} → P → Decides true P
surely p = (λ _. p, λ _. refl)

-- ---- sums, differences and products

module _ (op : Op) (a b : Span) (c : Cornered (exact op) a.lo a.hi b.lo b.hi) (divides-not : (x y : ℤ) → zero_trap op x y ≡ false) where
  no_zero : SomePair a b (λ x y. zero_trap op x y ≡ true) → ⊥
  no_zero w = both_ways (zero_trap op w.x w.y) (divides-not w.x w.y) w.pair

  -- a result that is not of 32 bits traps
  trapped : (z : ℤ) → Results op a b z → (Int32 z → ⊥) → SomePair a b (λ x y. range_trap op x y ≡ true)
  trapped z w n = record { x = w.x; y = w.y; in_a = w.in_a; in_b = w.in_b; pair = range_trap-unfit op w.x w.y (divides-not w.x w.y) (subst (λ v. Int32 v → ⊥) w.pair n) }

  outside : are_ends (lowest (exact op) a b) (highest (exact op) a b) ≡ false → SomePair a b (λ x y. range_trap op x y ≡ true)
  outside n =
      let lo = lowest (exact op) a b in
      let hi = highest (exact op) a b in
      let ends = reached op a b in
      ⊎_elim
      (λ (low : least ≤ℤ lo). ⊎_elim
      (λ (high : hi ≤ℤ greatest). absurd (both_ways (are_ends lo hi) n (are_ends-ordered low (bounds op a b c hi ends.1).0 high)))
      (λ (past : greatest <ℤ hi). trapped hi ends.1 (λ h. lt_not_le past h.high))
      (le-or-lt hi greatest))
      (λ (past : lo <ℤ least). trapped lo ends.0 (λ h. lt_not_le past h.low))
      (le-or-lt least lo)

  pub ranged-worked : Worked op a b (ranged (cornered op a b))
  ranged-worked = go (spanned-made (lowest (exact op) a b) (highest (exact op) a b))
    where
      go : {o : Option Span} → Made (lowest (exact op) a b) (highest (exact op) a b) o → Worked op a b (ranged o)
      go (one s p q) =
          let all : (z : ℤ) → Results op a b z → Within s z = λ z h. record { from = subst (λ l. l ≤ℤ z) (sym p) (bounds op a b c z h).0; to = subst (λ u. z ≤ℤ u) (sym q) (bounds op a b c z h).1 } in
          record {
            zero = never no_zero;
            range = never (λ w. no-range-trap op w.x w.y (int32-within s (exact op w.x w.y) (all _ (record { x = w.x; y = w.y; in_a = w.in_a; in_b = w.in_b; pair = refl }))) w.pair);
            warned = λ t. absurd (both_ways false refl t);
            quiet = λ _. least-by-ends (Results op a b) s all (subst (Results op a b) (sym p) (reached op a b).0) (subst (Results op a b) (sym q) (reached op a b).1);
          }
      go (none n) = record {
        zero = never no_zero;
        range = surely (outside n);
        warned = λ _. refl;
        quiet = λ t. absurd (both_ways true t refl);
      }

-- ---- quotients

-- a quotient of 32-bit integers is of 32 bits, but for that of the least by -1
pub quotient-in-range : (x y : ℤ) → Int32 x → ((x ≡ least) × (y ≡ negsuc 0) → ⊥) → Int32 (int_div x y)
quotient-in-range (pos a) (pos b) h n = record { low = omega (arith, ints, div-le_self a b); high = omega (arith, ints, div-le_self a b, h.high) }
quotient-in-range (pos a) (negsuc b) h n = record { low = omega (arith, ints, div-le_self a (suc b), h.high); high = omega (arith, ints) }
quotient-in-range (negsuc a) (pos b) h n = record { low = omega (arith, ints, div-le_self (suc a) b, h.low); high = omega (arith, ints) }
quotient-in-range (negsuc a) (negsuc zero) h n =
    let s : suc a / 1 ≡ suc a = div-one (suc a) in
    record {
      low = omega (arith, ints);
      high = ⊎_elim
          (λ (p : a < 2147483647). omega (arith, ints))
          (λ (p : 2147483647 ≤ a). absurd (n (omega (arith, ints, h.low), refl)))
          (cases_lt a 2147483647);
    }
quotient-in-range (negsuc a) (negsuc (suc b)) h n = record { low = omega (arith, ints); high = omega (arith, ints, h.low, div-lt_self {n = suc a} {k = suc (suc b)} (omega arith) (omega arith)) }

module _ (a b : Span) where
  zero-decided : Decides (has b (pos 0)) (SomePair a b (λ x y. zero_trap Div x y ≡ true))
  zero-decided = (
    λ t. record { x = a.lo; y = pos 0; in_a = within-lo a; in_b = (decides-has b (pos 0)).0 t; pair = refl },
    λ w. (decides-has b (pos 0)).1 (subst (Within b) (eq-from-test w.pair) w.in_b),
  )

  -- a range trap is that of the least by -1
  overflow : (x y : ℤ) → Int32 x → range_trap Div x y ≡ true → (x ≡ least) × (y ≡ negsuc 0)
  overflow x y h t = ⊎_elim
      (λ e. ⊎_elim
      (λ f. (eq-from-test e, eq-from-test f))
      (λ f. absurd (no-range-trap Div x y (quotient-in-range x y h (λ p. both_ways (eq_z y (negsuc 0)) f (test-from-eq p.1))) t))
      (cases_Bool (eq_z y (negsuc 0))))
      (λ e. absurd (no-range-trap Div x y (quotient-in-range x y h (λ p. both_ways (eq_z x least) e (test-from-eq p.0))) t))
      (cases_Bool (eq_z x least))

  range-decided : Decides (has a least && has b (negsuc 0)) (SomePair a b (λ x y. range_trap Div x y ≡ true))
  range-decided = (
    λ t.
        let p = and_parts (has a least) (has b (negsuc 0)) t in
        record { x = least; y = negsuc 0; in_a = (decides-has a least).0 p.0; in_b = (decides-has b (negsuc 0)).0 p.1; pair = refl },
    λ w.
        let e = overflow w.x w.y (int32-within a w.x w.in_a) w.pair in
        and_from (has a least) (has b (negsuc 0)) ((decides-has a least).1 (subst (Within a) e.0 w.in_a)) ((decides-has b (negsuc 0)).1 (subst (Within b) e.1 w.in_b)),
  )

  -- a divisor without 0 lies on one side of it
  one_side : has b (pos 0) ≡ false → (pos 0 <ℤ b.lo) ⊎ (b.hi <ℤ pos 0)
  one_side n = ⊎_elim
      (λ (p : b.lo ≤ℤ pos 0). ⊎_elim
      (λ (q : pos 0 ≤ℤ b.hi). absurd (both_ways (has b (pos 0)) n ((decides-has b (pos 0)).1 (record { from = p; to = q }))))
      (λ (q : b.hi <ℤ pos 0). inr q)
      (le-or-lt (pos 0) b.hi))
      (λ (p : pos 0 <ℤ b.lo). inl p)
      (le-or-lt b.lo (pos 0))

  quiet-quotient : has b (pos 0) ≡ false → (has a least && has b (negsuc 0)) ≡ false → LeastSpan (Results Div a b) (or_whole (cornered Div a b))
  quiet-quotient nz nr =
      let fits : (x y : ℤ) → Within a x → Within b y → Int32 (int_div x y) = λ x y p q. quotient-in-range x y (int32-within a x p)
      (λ e. both_ways (has a least && has b (negsuc 0)) nr (and_from (has a least) (has b (negsuc 0)) ((decides-has a least).1 (subst (Within a) e.0 p)) ((decides-has b (negsuc 0)).1 (subst (Within b) e.1 q)))) in
      let ends = of-corners Div a b Int32 fits in
      or-whole-least (Results Div a b) (cornered Div a b) (lowest int_div a b)
      (cornered-least Div a b (quotient-corners a.lo a.hi b.lo b.hi (one_side nz)) ends.0.low ends.1.high)
      (reached Div a b).0

  quotient_by : (z r : Bool) → has b (pos 0) ≡ z → (has a least && has b (negsuc 0)) ≡ r → Decides z (SomePair a b (λ x y. zero_trap Div x y ≡ true)) → Decides r (SomePair a b (λ x y. range_trap Div x y ≡ true)) → Worked Div a b (warned z r (or_whole (cornered Div a b)))
  quotient_by true r e f dz dr = record { zero = dz; range = dr; warned = λ _. refl; quiet = λ t. absurd (both_ways true t refl) }
  quotient_by false true e f dz dr = record { zero = dz; range = dr; warned = λ _. refl; quiet = λ t. absurd (both_ways true t refl) }
  quotient_by false false e f dz dr = record { zero = dz; range = dr; warned = λ t. absurd (both_ways false refl t); quiet = λ _. quiet-quotient e f }

  quotient-worked : Worked Div a b (works Div a b)
  quotient-worked = quotient_by (has b (pos 0)) (has a least && has b (negsuc 0)) refl refl zero-decided range-decided

-- ---- comparisons

truth-fits : (t : Bool) → Int32 (truth t)
truth-fits true = record { low = omega (arith, ints); high = omega (arith, ints) }
truth-fits false = record { low = omega (arith, ints); high = omega (arith, ints) }

compared : (op : Op) (rel : Relation) (a b : Span) → ((x y : ℤ) → zero_trap op x y ≡ false) → ((x y : ℤ) → exact op x y ≡ truth (holds rel x y)) → Worked op a b (judged rel a b, false, false)
compared op rel a b nz same =
    let l = judged-least rel a b in
    let there : (z : ℤ) → Results op a b z → SomePair a b (λ x y. z ≡ truth (holds rel x y)) = λ z w. record { x = w.x; y = w.y; in_a = w.in_a; in_b = w.in_b; pair = w.pair ∙ same w.x w.y } in
    let back : (z : ℤ) → SomePair a b (λ x y. z ≡ truth (holds rel x y)) → Results op a b z = λ z w. record { x = w.x; y = w.y; in_a = w.in_a; in_b = w.in_b; pair = w.pair ∙ sym (same w.x w.y) } in
    record {
      zero = never (λ w. both_ways (zero_trap op w.x w.y) (nz w.x w.y) w.pair);
      range = never (λ w. no-range-trap op w.x w.y (subst Int32 (sym (same w.x w.y)) (truth-fits (holds rel w.x w.y))) w.pair);
      warned = λ t. absurd (both_ways false refl t);
      quiet = λ _. record { all = λ z h. l.all z (there z h); fewest = λ t h. l.fewest t (λ z w. h z (back z w)) };
    }

-- ---- all operations

pub works-worked : (op : Op) (a b : Span) → Worked op a b (works op a b)
works-worked Add a b = ranged-worked Add a b (sum-corners a.lo a.hi b.lo b.hi) (λ _ _. refl)
works-worked Sub a b = ranged-worked Sub a b (difference-corners a.lo a.hi b.lo b.hi) (λ _ _. refl)
works-worked Mul a b = ranged-worked Mul a b (product-corners a.lo a.hi b.lo b.hi) (λ _ _. refl)
works-worked Div a b = quotient-worked a b
works-worked IsLess a b = compared IsLess Less a b (λ _ _. refl) (λ _ _. refl)
works-worked IsAtMost a b = compared IsAtMost AtMost a b (λ _ _. refl) (λ _ _. refl)
works-worked IsEqual a b = compared IsEqual Equal a b (λ _ _. refl) (λ _ _. refl)
works-worked IsUnequal a b = compared IsUnequal Unequal a b (λ _ _. refl) (λ _ _. refl)

pub works-compared : (op : Op) (a b : Span) → Compared op a b (works op a b).0
works-compared Add a b = tt
works-compared Sub a b = tt
works-compared Mul a b = tt
works-compared Div a b = tt
works-compared IsLess a b = judged-judged Less a b
works-compared IsAtMost a b = judged-judged AtMost a b
works-compared IsEqual a b = judged-judged Equal a b
works-compared IsUnequal a b = judged-judged Unequal a b

pub worked-as : (op : Op) (a b : Span) (r : Span × Bool × Bool) → r ≡ works op a b → record { value : r ≡ works op a b; means : Worked op a b r; compares : Compared op a b r.0 }
worked-as op a b r e = record { value = e; means = subst (Worked op a b) (sym e) (works-worked op a b); compares = subst (λ t. Compared op a b t.0) (sym e) (works-compared op a b) }
