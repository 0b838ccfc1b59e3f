-- A span is its two ends, and what making one gives. Assumes nothing.
use Rattle.std.specs.Prelude.{◌≡◌, Bool, true, false, ◌&&◌, ℤ, ◌≤ℤ◌, ◌<ℤ◌, Some, None, Option, int_le, refl}
use Rattle.std.proofs.Common.{sym, ap, subst, ◌∙◌}
use Rattle.std.proofs.Math.Dec.{T_prop}
use Rattle.std.proofs.lemmas.Bool.{and_parts, and_from, both_ways, and_left, and_right}
use Rattle.number.specs.Exact.{least, greatest}
use Rattle.number.proofs.Order.{test-from-le, le-from-test, no-le-from-lt}
use Rattle.span.specs.declared.Span.{Span}
use Rattle.span.specs.Ends.{are_ends, spanned_by, spanned}

le_same : {a b : ℤ} (p q : a ≤ℤ b) → p ≡ q
le_same {a} {b} p q = λ i. record { le = T_prop (int_le a b) p.le q.le i }

made : (lo hi : ℤ) → least ≤ℤ lo → lo ≤ℤ hi → hi ≤ℤ greatest → Span
made lo hi p q r = record { lo = lo; hi = hi; low = p; ordered = q; high = r }

made-same : (lo hi : ℤ) (p p' : least ≤ℤ lo) (q q' : lo ≤ℤ hi) (r r' : hi ≤ℤ greatest) → made lo hi p q r ≡ made lo hi p' q' r'
made-same lo hi p p' q q' r r' = λ i. made lo hi (le_same p p' i) (le_same q q' i) (le_same r r' i)

-- a span is its two ends
pub span-eq : (s t : Span) → s.lo ≡ t.lo → s.hi ≡ t.hi → s ≡ t
unfolding made
span-eq s t e f =
    subst (λ (l : ℤ). (p : least ≤ℤ l) (q : l ≤ℤ t.hi) → s ≡ made l t.hi p q t.high) e
    (λ p q. subst (λ (h : ℤ). (q : s.lo ≤ℤ h) (r : h ≤ℤ greatest) → s ≡ made s.lo h p q r) f (λ q r. made-same s.lo s.hi s.low p s.ordered q s.high r) q t.high)
    t.low t.ordered

pub are_ends-ordered : {lo hi : ℤ} → least ≤ℤ lo → lo ≤ℤ hi → hi ≤ℤ greatest → are_ends lo hi ≡ true
are_ends-ordered {lo} {hi} p q r =
    and_from (int_le least lo) (int_le lo hi && int_le hi greatest) (test-from-le p) (and_from (int_le lo hi) (int_le hi greatest) (test-from-le q) (test-from-le r))

pub ends-parts : {lo hi : ℤ} → are_ends lo hi ≡ true → (least ≤ℤ lo) × (lo ≤ℤ hi) × (hi ≤ℤ greatest)
ends-parts {lo} {hi} e =
    let outer = and_parts (int_le least lo) (int_le lo hi && int_le hi greatest) e in
    let inner = and_parts (int_le lo hi) (int_le hi greatest) outer.1 in
    (le-from-test outer.0, le-from-test inner.0, le-from-test inner.1)

pub own-ends : (s : Span) → are_ends s.lo s.hi ≡ true
own-ends s = are_ends-ordered s.low s.ordered s.high

-- what making a span from lo and hi gives
pub data Made (lo hi : ℤ) : Option Span → Type 0 where
  one : (s : Span) → s.lo ≡ lo → s.hi ≡ hi → Made lo hi (Some s)
  none : are_ends lo hi ≡ false → Made lo hi None

made_by : (lo hi : ℤ) (t : Bool) (e : are_ends lo hi ≡ t) → Made lo hi (spanned_by lo hi t e)
unfolding spanned_by
made_by lo hi true e = one _ refl refl
made_by lo hi false e = none e

pub spanned-made : (lo hi : ℤ) → Made lo hi (spanned lo hi)
unfolding spanned
spanned-made lo hi = made_by lo hi (are_ends lo hi) refl

-- it is this span, if that has these ends
pub spanned-is : (s : Span) (lo hi : ℤ) → s.lo ≡ lo → s.hi ≡ hi → Some s ≡ spanned lo hi
spanned-is s lo hi e f = go (spanned-made lo hi)
  where
    ends : are_ends lo hi ≡ true
    ends = subst (λ (l : ℤ). are_ends l hi ≡ true) e (subst (λ (h : ℤ). are_ends s.lo h ≡ true) f (own-ends s))

    go : {o : Option Span} → Made lo hi o → Some s ≡ o
    go (one t p q) = ap Some (span-eq s t (e ∙ sym p) (f ∙ sym q))
    go (none n) = absurd (both_ways (are_ends lo hi) n ends)

-- and none, if they are no ends
pub spanned-none : (lo hi : ℤ) → are_ends lo hi ≡ false → None ≡ spanned lo hi
spanned-none lo hi n = go (spanned-made lo hi)
  where
    go : {o : Option Span} → Made lo hi o → None ≡ o
    go (one t p q) =
        absurd (both_ways (are_ends lo hi) n (subst (λ (l : ℤ). are_ends l hi ≡ true) p (subst (λ (h : ℤ). are_ends t.lo h ≡ true) q (own-ends t))))
    go (none _) = refl

pub none-low : (lo hi : ℤ) → lo <ℤ least → None ≡ spanned lo hi
none-low lo hi h = spanned-none lo hi (and_left (int_le least lo) (int_le lo hi && int_le hi greatest) (no-le-from-lt h))

pub none-order : (lo hi : ℤ) → hi <ℤ lo → None ≡ spanned lo hi
none-order lo hi h = spanned-none lo hi (and_right (int_le least lo) (int_le lo hi && int_le hi greatest) (and_left (int_le lo hi) (int_le hi greatest) (no-le-from-lt h)))

pub none-high : (lo hi : ℤ) → greatest <ℤ hi → None ≡ spanned lo hi
none-high lo hi h = spanned-none lo hi (and_right (int_le least lo) (int_le lo hi && int_le hi greatest) (and_right (int_le lo hi) (int_le hi greatest) (no-le-from-lt h)))
