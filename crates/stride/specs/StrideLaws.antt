-- Strides keep the laws of a domain. Assumes nothing.
use Rattle.std.specs.Prelude.{◌≡◌, ℕ, ◌<◌, Bool, true, false, cond, not, ◌&&◌, ◌||◌, ◌≢◌, length, ℤ, pos, ◌+ℤ◌, ◌-ℤ◌, ◌*ℤ◌, ◌≤ℤ◌, ◌<ℤ◌, Some, None, Ok, ◌==◌, unsigned_abs, refl}
use Rattle.std.proofs.Common.{⊎_elim, sym, ap, ap₂, subst, ◌∙◌, arith, to_z, of_z}
use Rattle.std.proofs.Math.Nat.{dvd_refl, one-dvd}
use Rattle.std.specs.Int.{int_rem_euclid, w32}
use Rattle.std.proofs.lemmas.Int.{ints, to_z-of_z}
use Rattle.std.proofs.lemmas.Bool.{true≢false, false≢true, and_parts, and_from, and_cases, not-true, not-false, not_from_false, both_ways, eqb-true, eq-eqb, ne_eqb, cond-true, cond-false, cases_Bool, cases_eq}
use Rattle.number.specs.Exact.{Int32, eq_z, exact, holds, fits32, truth, worked, or_else, zero_trap, range_trap}
use Rattle.number.specs.declared.Op.{Op}
use Rattle.number.specs.declared.Op.TheVariants.{Add, Sub, Mul, Div, IsLess, IsAtMost, IsEqual, IsUnequal}
use Rattle.number.specs.declared.Relation.{Relation}
use Rattle.number.specs.declared.Relation.TheVariants.{Less, AtMost, Equal, Unequal, Greater, AtLeast}
use Rattle.number.specs.declared.Trap.TheVariants.{Zero, Range}
use Rattle.number.proofs.Order.{eq-from-test, test-from-eq, le_antisym, width-of-int32}
use Rattle.domain.specs.Laws.{Order, Reading, Working, Narrowing, Keeps}
use Rattle.stride.specs.declared.value.Stride.{Stride}
use Rattle.stride.specs.Divisors.{is_multiple}
use Rattle.stride.specs.Strides.{describes, made, anything, strided, constant, covers, value, constants, moved, steps, works, is_equal, narrows, stride_ops}
use Rattle.arith.specs.Residues.{Congruent, gcd}
use Rattle.arith.proofs.Remainders.{congruent-refl, congruent-sym, congruent-trans, congruent-by, gcd-sum, gcd-difference, gcd-product, remainder-congruent, remainder-below, remainder-only}
use Rattle.stride.specs.Multiples.{multiple-divides, divides-multiple, congruent-from, congruent-to, gcd-positive, gcd-small}
use Rattle.stride.specs.Made.{stride-facts, fitting-constant, fitting-moving, strided-describes}

-- order

by_one : (x y : ℤ) → Congruent 1 x y
by_one x y = (x -ℤ y, once x y)
  where
    once : (x y : ℤ) → x ≡ y +ℤ (pos 1 *ℤ (x -ℤ y))
    once x y = omega (arith, ints)

pub anything_describes : (z : ℤ) → describes anything z
anything_describes z = by_one z (pos 0)

pub value_describes : (lo hi z : ℤ) → Int32 lo → lo ≤ℤ z → z ≤ℤ hi → describes (value lo hi) z
value_describes lo hi z h i j = ⊎_elim one many (cases_Bool (eq_z lo hi))
  where
    one : eq_z lo hi ≡ true → describes (value lo hi) z
    one e =
        let same : z ≡ lo = le_antisym (subst (λ t. z ≤ℤ t) (sym (eq-from-test {a = lo} {b = hi} e)) j) i in
        subst (λ s. describes s z) (sym (cond-true _ (strided 0 lo) anything e)) (strided-describes 0 lo z (fitting-constant lo h) (subst (λ t. Congruent 0 t lo) (sym same) (congruent-refl 0 lo)))

    many : eq_z lo hi ≡ false → describes (value lo hi) z
    many e = subst (λ s. describes s z) (sym (cond-false _ (strided 0 lo) anything e)) (anything_describes z)

unequal : (lo hi : ℤ) → hi <ℤ lo → eq_z lo hi ≡ false
unequal lo hi h = grind (arith, ints)

pub covers_sound : (a b : Stride) → covers a b ≡ true → (z : ℤ) → describes b z → describes a z
covers_sound a b e z d =
    let p = and_parts (is_multiple a.modulus b.modulus) (is_multiple a.modulus (unsigned_abs (b.remainder -ℤ a.remainder))) e in
    congruent-trans a.modulus z b.remainder a.remainder (congruent-by a.modulus b.modulus z b.remainder (multiple-divides _ _ p.0) d) (congruent-from _ _ _ (multiple-divides _ _ p.1))

pub covers_self : (a : Stride) → covers a a ≡ true
covers_self a = and_from _ _ (divides-multiple _ _ (dvd_refl a.modulus)) (divides-multiple _ _ (congruent-to _ _ _ (congruent-refl a.modulus a.remainder)))

pub stride-order : Order describes stride_ops
stride-order = record {
  anything_describes = λ z h. anything_describes z;
  anything_covers = λ a. and_from _ _ (divides-multiple 1 a.modulus (one-dvd a.modulus)) (divides-multiple 1 _ (one-dvd (unsigned_abs (a.remainder -ℤ pos 0))));
  value_describes = λ lo hi z h i j k. value_describes lo hi z h j k;
  value_empty = λ lo hi h i j. cond-false _ _ _ (unequal lo hi j);
  covers_sound = λ a b e z h d. covers_sound a b e z d;
  covers_self = covers_self;
}

-- reading

blank_byte : (t : Bool) → cond t 1 0 < 256
blank_byte true = omega arith
blank_byte false = omega arith

blank-cell : stride_ops.reads (Rattle.domain.specs.Laws.blanks stride_ops) ≡ Some anything
unfolding made
blank-cell = refl

pub stride-reading : Reading stride_ops
stride-reading = record {
  width_small = omega arith;
  blank_byte = λ i. blank_byte (i == 0);
  blank_beyond = λ i h. cond-false _ _ _ (ne_eqb i 0 (omega arith));
  blank_reads = λ _. blank-cell;
  other_length = λ cell h. cond-false _ _ _ (ne_eqb (length cell) 6 h);
  no_width = λ h cell. absurd (omega arith);
}

-- working

-- what a constant describes is its remainder
pub only-remainder : (m : ℕ) (x r : ℤ) → m ≡ 0 → Congruent m x r → x ≡ r
only-remainder m x r z (k, e) = e ∙ ap (λ n. r +ℤ (pos n *ℤ k)) z ∙ nothing-more r k
  where
    nothing-more : (r k : ℤ) → r +ℤ (pos 0 *ℤ k) ≡ r
    nothing-more r k = omega (arith, ints)

-- the two warnings on constants are the two traps
pub constants-zero : (zero late : Bool) (v : ℤ) → (constants (or_else zero Zero (or_else late Range (Ok v)))).1 ≡ zero
constants-zero true late v = refl
constants-zero false true v = refl
constants-zero false false v = refl

pub constants-range : (zero late : Bool) (v : ℤ) → (constants (or_else zero Zero (or_else (not zero && late) Range (Ok v)))).2 ≡ (not zero && late)
constants-range true late v = refl
constants-range false true v = refl
constants-range false false v = refl

pub constants-value : (zero late : Bool) (v : ℤ) → zero ≡ false → late ≡ false → (constants (or_else zero Zero (or_else late Range (Ok v)))).0 ≡ strided 0 v
constants-value true late v h i = absurd (true≢false h)
constants-value false true v h i = absurd (true≢false i)
constants-value false false v h i = refl

pub constants-warned : (zero late : Bool) (v : ℤ) → (zero || late) ≡ true → (constants (or_else zero Zero (or_else late Range (Ok v)))).0 ≡ anything
constants-warned true late v h = refl
constants-warned false true v h = refl
constants-warned false false v h = absurd (false≢true h)

truth-fits : (t : Bool) → fits32 (truth t) ≡ true
truth-fits true = refl
truth-fits false = refl

pub fits-exact : (op : Op) (x y : ℤ) → zero_trap op x y ≡ false → range_trap op x y ≡ false → fits32 (exact op x y) ≡ true
fits-exact op x y h i = ⊎_elim (λ e. absurd (both_ways _ e (not_from_false _ h))) (λ e. not-false _ e) (and_cases (not (zero_trap op x y)) (not (fits32 (exact op x y))) i)

ne_test : (z : ℤ) → z ≢ pos 0 → eq_z z (pos 0) ≡ false
ne_test z h = grind (arith, ints)

-- a stride whose remainder is not 0 does not describe 0
other-than-0 : (s : Stride) (y : ℤ) → describes s y → eq_z s.remainder (pos 0) ≡ false → eq_z y (pos 0) ≡ false
other-than-0 s y d w = ne_test y (λ z. ⊎_elim (none z) (some z) (cases_eq s.modulus 0))
  where
    remainder-ne : s.remainder ≢ pos 0
    remainder-ne e = both_ways _ w (test-from-eq e)

    none : y ≡ pos 0 → s.modulus ≢ 0
    none z m = remainder-ne (sym (only-remainder s.modulus y s.remainder m d) ∙ z)

    some : y ≡ pos 0 → (s.modulus ≢ 0) → ⊥
    some z m =
        let f = stride-facts s in
        let p : 0 < s.modulus = omega arith in
        remainder-ne (remainder-only s.modulus s.remainder y (congruent-sym s.modulus y s.remainder d) (f.above p) (f.below p) (omega (arith, ints, z)) (omega (arith, ints, z, p)) ∙ z)

module _ (a b : Stride) where
  steps-zero : (op : Op) (g : ℕ) (x y : ℤ) → describes b y → (steps op g a.remainder b.remainder).1 ≡ false → zero_trap op x y ≡ false
  steps-zero Add g x y d w = refl
  steps-zero Sub g x y d w = refl
  steps-zero Mul g x y d w = refl
  steps-zero Div g x y d w = other-than-0 b y d w
  steps-zero IsLess g x y d w = refl
  steps-zero IsAtMost g x y d w = refl
  steps-zero IsEqual g x y d w = refl
  steps-zero IsUnequal g x y d w = refl

  steps-range : (op : Op) (g : ℕ) (x y : ℤ) → (steps op g a.remainder b.remainder).2 ≡ false → range_trap op x y ≡ false
  steps-range Add g x y w = absurd (true≢false w)
  steps-range Sub g x y w = absurd (true≢false w)
  steps-range Mul g x y w = absurd (true≢false w)
  steps-range Div g x y w = absurd (true≢false w)
  steps-range IsLess g x y w = ap not (truth-fits _)
  steps-range IsAtMost g x y w = ap not (truth-fits _)
  steps-range IsEqual g x y w = ap not (truth-fits _)
  steps-range IsUnequal g x y w = ap not (truth-fits _)

  module _ (more : a.modulus ≡ 0 → b.modulus ≢ 0) (x y : ℤ) (d : describes a x) (e : describes b y) where
    g-positive : 0 < gcd a.modulus b.modulus
    g-positive = gcd-positive a.modulus b.modulus more

    moved-describes : (z r : ℤ) → Congruent (gcd a.modulus b.modulus) z r → describes (moved (gcd a.modulus b.modulus) r).0 z
    moved-describes z r c =
        let g = gcd a.modulus b.modulus in
        let s = remainder-below g r g-positive in
        strided-describes g (int_rem_euclid r (pos g)) z
        (fitting-moving g (int_rem_euclid r (pos g)) (gcd-small a.modulus b.modulus more 65535 (stride-facts a).small (stride-facts b).small) g-positive s.0 s.1)
        (congruent-trans g z r (int_rem_euclid r (pos g)) c (remainder-congruent g r g-positive))

    steps-describes : (op : Op) → describes (steps op (gcd a.modulus b.modulus) a.remainder b.remainder).0 (exact op x y)
    steps-describes Add = moved-describes (x +ℤ y) _ (gcd-sum a.modulus b.modulus x y a.remainder b.remainder d e)
    steps-describes Sub = moved-describes (x -ℤ y) _ (gcd-difference a.modulus b.modulus x y a.remainder b.remainder d e)
    steps-describes Mul = moved-describes (x *ℤ y) _ (gcd-product a.modulus b.modulus x y a.remainder b.remainder d e)
    steps-describes Div = anything_describes _
    steps-describes IsLess = anything_describes _
    steps-describes IsAtMost = anything_describes _
    steps-describes IsEqual = anything_describes _
    steps-describes IsUnequal = anything_describes _

both_constant : (a b : Stride) → (constant a && constant b) ≡ true → (a.modulus ≡ 0) × (b.modulus ≡ 0)
both_constant a b t = let p = and_parts (constant a) (constant b) t in (eqb-true a.modulus 0 p.0, eqb-true b.modulus 0 p.1)

one-moves : (a b : Stride) → (constant a && constant b) ≡ false → a.modulus ≡ 0 → b.modulus ≢ 0
one-moves a b t h i = both_ways _ t (and_from _ _ (eq-eqb a.modulus 0 h) (eq-eqb b.modulus 0 i))

module _ (op : Op) (a b : Stride) (x y : ℤ) (d : describes a x) (e : describes b y) where
  on-constants : (constant a && constant b) ≡ true → works op a b ≡ constants (worked op x y)
  on-constants t =
      let p = both_constant a b t in
      cond-true _ _ _ t ∙ ap₂ (λ r s. constants (worked op r s)) (sym (only-remainder a.modulus x a.remainder p.0 d)) (sym (only-remainder b.modulus y b.remainder p.1 e))

  otherwise : (constant a && constant b) ≡ false → works op a b ≡ steps op (gcd a.modulus b.modulus) a.remainder b.remainder
  otherwise t = cond-false _ _ _ t

  zero_warned : (works op a b).1 ≡ false → zero_trap op x y ≡ false
  zero_warned w = ⊎_elim
      (λ t. sym (constants-zero (zero_trap op x y) (range_trap op x y) (exact op x y)) ∙ sym (ap (λ r. r.1) (on-constants t)) ∙ w)
      (λ t. steps-zero a b op _ x y e (sym (ap (λ r. r.1) (otherwise t)) ∙ w))
      (cases_Bool (constant a && constant b))

  range_warned : (works op a b).2 ≡ false → range_trap op x y ≡ false
  range_warned w = ⊎_elim
      (λ t. sym (constants-range (zero_trap op x y) (not (fits32 (exact op x y))) (exact op x y)) ∙ sym (ap (λ r. r.2) (on-constants t)) ∙ w)
      (λ t. steps-range a b op _ x y (sym (ap (λ r. r.2) (otherwise t)) ∙ w))
      (cases_Bool (constant a && constant b))

  result_described : zero_trap op x y ≡ false → range_trap op x y ≡ false → describes (works op a b).0 (exact op x y)
  result_described h i = ⊎_elim
      (λ t. subst (λ s. describes s (exact op x y)) (sym (ap (λ r. r.0) (on-constants t) ∙ constants-value (zero_trap op x y) (range_trap op x y) (exact op x y) h i)) (strided-describes 0 (exact op x y) (exact op x y) (fits-exact op x y h i) (congruent-refl 0 (exact op x y))))
      (λ t. subst (λ r. describes r.0 (exact op x y)) (sym (otherwise t)) (steps-describes a b (one-moves a b t) x y d e op))
      (cases_Bool (constant a && constant b))

pub stride-working : Working describes stride_ops
stride-working = record {
  zero_warned = λ op a b x y h i d e. zero_warned op a b x y d e;
  range_warned = λ op a b x y h i d e. range_warned op a b x y d e;
  result_described = λ op a b x y h i d e. result_described op a b x y d e;
}

-- narrowing

equal-only : (rel : Relation) (x y : ℤ) → is_equal rel ≡ true → holds rel x y ≡ true → x ≡ y
equal-only Less x y h i = absurd (false≢true h)
equal-only AtMost x y h i = absurd (false≢true h)
equal-only Equal x y h i = eq-from-test i
equal-only Unequal x y h i = absurd (false≢true h)
equal-only Greater x y h i = absurd (false≢true h)
equal-only AtLeast x y h i = absurd (false≢true h)

-- of three answers, each in its case
kept_by : (x : ℤ) (equal failed : Bool) (a b : Stride) → describes a x → (equal ≡ true → describes b x) → (failed ≢ true) → Keeps describes x (cond equal (Some b) (cond failed None (Some a)))
kept_by x true failed a b d e f = e refl
kept_by x false true a b d e f = f refl
kept_by x false false a b d e f = d

pub stride-narrowing : Narrowing describes stride_ops
stride-narrowing = record { kept = kept }
  where
    kept : (a : Stride) (rel : Relation) (b : Stride) (x y : ℤ) → Int32 x → Int32 y → describes a x → describes b y → holds rel x y ≡ true → Keeps describes x (narrows a rel b)
    kept a rel b x y h i d e r = kept_by x _ _ a b d
        (λ t. subst (λ z. describes b z) (sym (equal-only rel x y (and_parts (is_equal rel) (covers a b) t).0 r)) e)
        (λ t.
        let p = and_parts (constant a && constant b) (not (holds rel a.remainder b.remainder)) t in
        let q = both_constant a b p.0 in
        both_ways _ (not-true _ p.1) (sym (ap₂ (holds rel) (only-remainder a.modulus x a.remainder q.0 d) (only-remainder b.modulus y b.remainder q.1 e)) ∙ r))

-- the code's answer where one of two strides moves
kept-bits : (s : Stride) → to_z w32 (of_z w32 s.remainder) ≡ s.remainder
kept-bits s = to_z-of_z w32 s.remainder (width-of-int32 (stride-facts s).int32)

pub not-constants : (a b : Stride) → (a.modulus ≡ 0 → b.modulus ≢ 0) → (constant a && constant b) ≡ false
not-constants a b h = ⊎_elim (λ t. absurd (h (both_constant a b t).0 (both_constant a b t).1)) (λ t. t) (cases_Bool (constant a && constant b))

pub moving : (op : Op) (a b : Stride) (g : ℕ) → g ≡ gcd a.modulus b.modulus → (a.modulus ≡ 0 → b.modulus ≢ 0) → steps op g (to_z w32 (of_z w32 a.remainder)) (to_z w32 (of_z w32 b.remainder)) ≡ works op a b
moving op a b g e more =
    ap₂ (steps op g) (kept-bits a) (kept-bits b) ∙ ap (λ n. steps op n a.remainder b.remainder) e
    ∙ sym (cond-false _ _ _ (not-constants a b more))
