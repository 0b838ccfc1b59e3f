-- The answers of strides mean what the rules say. Assumes nothing.
use Rattle.std.proofs.Common.{◌≡◌, ℕ, ◌<◌, Bool, true, false, not, ◌&&◌, ℤ, pos, ◌+ℤ◌, ◌-ℤ◌, nat_abs, Some, None, Decides, sym, refl, ap, ◌∙◌, subst, ⊎_elim, arith}
use Prim.Native.Nat.{◌∣◌}
use native.Mathlib.Nat.{dvd-zero}
use Rattle.std.specs.Int.{int_rem_euclid}
use Rattle.std.proofs.lemmas.Int.{ints}
use Rattle.std.proofs.lemmas.Bool.{false≢true, and_parts, and_from, both_ways, eqb-true, not-true, not_from_false, eq-eqb, cases_eq, cond-true, cond-false, cases_Bool}
use Rattle.number.specs.Exact.{Int32, eq_z, exact, holds, zero_trap, range_trap, worked, fits32}
use Rattle.number.specs.declared.Op.{Op}
use Rattle.number.specs.declared.Op.TheVariants.{Add, Sub, Mul, Div, IsLess, IsAtMost, IsEqual, IsUnequal}
use Rattle.number.specs.declared.Relation.{Relation}
use Rattle.number.specs.declared.Relation.TheVariants.{Less, AtMost, Equal, Unequal, Greater, AtLeast}
use Rattle.number.proofs.Order.{eq-from-test, test-from-eq}
use Rattle.arith.specs.Residues.{Congruent, gcd, gcd_within}
use Rattle.arith.proofs.Remainders.{congruent-refl, congruent-sym, congruent-trans, remainder-congruent, remainder-below}
use Rattle.stride.specs.declared.value.Stride.{Stride}
use Rattle.stride.specs.Fitting.{fitting}
use Rattle.stride.specs.Strides.{describes, made, anything, strided, covers, value, constants, moved, steps, works, constant, is_equal, narrows}
use Rattle.stride.specs.Rules.{NoMore, FromTo, Exactly, Moves, Gives, Works, Narrows, Examples}
use Rattle.stride.specs.Multiples.{divides-multiple, congruent-to, gcd-positive, gcd-small, gcd-greatest}
use Rattle.stride.specs.Made.{stride-facts, fitting-constant, fitting-moving, strided-fits}
use Rattle.stride.specs.StrideLaws.{only-remainder, covers_sound, constants-zero, constants-range, constants-value, fits-exact, constants-warned, not-constants}

-- covering: two integers that b describes decide it, its remainder and the next one
next-described : (m : ℕ) (r : ℤ) → Congruent m (r +ℤ pos m) r
next-described m r = (pos 1, omega (arith, ints))

step_back : (r : ℤ) (m : ℕ) → (r +ℤ pos m) -ℤ r ≡ pos m
step_back r m = omega (arith, ints)

pub covers-complete : (a b : Stride) → NoMore b a → covers a b ≡ true
covers-complete a b h = and_from _ _ (divides-multiple a.modulus b.modulus (⊎_elim none some (cases_eq b.modulus 0))) (divides-multiple a.modulus _ (congruent-to a.modulus b.remainder a.remainder here))
  where
    here : describes a b.remainder
    here = h b.remainder (stride-facts b).int32 (congruent-refl b.modulus b.remainder)

    none : b.modulus ≡ 0 → a.modulus ∣ b.modulus
    none z = subst (λ n. a.modulus ∣ n) (sym z) (dvd-zero a.modulus)

    some : (b.modulus ≡ 0 → ⊥) → a.modulus ∣ b.modulus
    some z =
        let f = stride-facts b in
        let p : 0 < b.modulus = omega arith in
        let l = f.above p in
        let u = f.below p in
        let s = f.small in
        let next : Int32 (b.remainder +ℤ pos b.modulus) = record { low = omega (arith, ints, l); high = omega (arith, ints, u, s) } in
        let there = h (b.remainder +ℤ pos b.modulus) next (next-described b.modulus b.remainder) in
        subst (λ n. a.modulus ∣ n) (ap nat_abs (step_back b.remainder b.modulus))
        (congruent-to a.modulus (b.remainder +ℤ pos b.modulus) b.remainder (congruent-trans a.modulus (b.remainder +ℤ pos b.modulus) a.remainder b.remainder there (congruent-sym a.modulus b.remainder a.remainder here)))

pub covers-exactly : (a b : Stride) → Decides (covers a b) (NoMore b a)
covers-exactly a b = (λ e z _ d. covers_sound a b e z d, covers-complete a b)

-- values of a range
pub value-from-to : (lo hi : ℤ) → Int32 lo → FromTo lo hi (value lo hi)
value-from-to lo hi h = record {
  modulus = λ e. ap (λ s. s.modulus) (one e);
  remainder = λ e. ap (λ s. s.remainder) (one e);
  more = λ e. cond-false _ _ _ (⊎_elim (λ t. absurd (e (eq-from-test t))) (λ t. t) (cases_Bool (eq_z lo hi)));
}
  where
    one : lo ≡ hi → value lo hi ≡ record { modulus = 0; remainder = lo; fits = fitting-constant lo h }
    one e = cond-true _ (strided 0 lo) anything (test-from-eq e) ∙ strided-fits 0 lo (fitting-constant lo h)

-- working
exactly : (op : Op) (r s : ℤ) → Exactly op r s (constants (worked op r s))
exactly op r s = record {
  zero = constants-zero (zero_trap op r s) (range_trap op r s) (exact op r s);
  range = constants-range (zero_trap op r s) (not (fits32 (exact op r s))) (exact op r s);
  modulus = λ h i. ap (λ v. v.modulus) (result h i);
  remainder = λ h i. ap (λ v. v.remainder) (result h i);
  warned = λ t. constants-warned (zero_trap op r s) (range_trap op r s) (exact op r s) t;
}
  where
    result : (h : zero_trap op r s ≡ false) (i : range_trap op r s ≡ false) → (constants (worked op r s)).0 ≡ record { modulus = 0; remainder = exact op r s; fits = fits-exact op r s h i }
    result h i = constants-value (zero_trap op r s) (range_trap op r s) (exact op r s) h i ∙ strided-fits 0 (exact op r s) (fits-exact op r s h i)

module _ (a b : Stride) (more : a.modulus ≡ 0 → b.modulus ≡ 0 → ⊥) where
  moves : (z : ℤ) → Moves a.modulus b.modulus z (moved (gcd a.modulus b.modulus) z)
  moves z =
      let m = a.modulus in
      let n = b.modulus in
      let p = gcd-positive m n more in
      let s = remainder-below (gcd m n) z p in
      let fit : fitting (gcd m n) (int_rem_euclid z (pos (gcd m n))) ≡ true = fitting-moving (gcd m n) (int_rem_euclid z (pos (gcd m n))) (gcd-small m n more 65535 (stride-facts a).small (stride-facts b).small) p s.0 s.1 in
      subst (λ v. Moves m n z (v, false, true)) (sym (strided-fits (gcd m n) (int_rem_euclid z (pos (gcd m n))) fit))
      (record { modulus = gcd-greatest m n; remainder = remainder-congruent (gcd m n) z p; low = s.0; high = s.1; zero = refl; range = refl })

  gives : (op : Op) → Gives op a b (steps op (gcd a.modulus b.modulus) a.remainder b.remainder)
  gives Add = moves _
  gives Sub = moves _
  gives Mul = moves _
  gives Div = refl
  gives IsLess = refl
  gives IsAtMost = refl
  gives IsEqual = refl
  gives IsUnequal = refl

pub works-means : (op : Op) (a b : Stride) → Works op a b (works op a b)
works-means op a b = record {
  constants = λ h i. subst (Exactly op a.remainder b.remainder) (sym (cond-true _ _ _ (and_from _ _ (eq-eqb a.modulus 0 h) (eq-eqb b.modulus 0 i)))) (exactly op a.remainder b.remainder);
  otherwise = λ more. subst (Gives op a b) (sym (cond-false _ _ _ (not-constants a b more))) (gives a b more op);
}

-- narrowing
is-equal : (rel : Relation) → is_equal rel ≡ true → rel ≡ Equal
is-equal Less h = absurd (false≢true h)
is-equal AtMost h = absurd (false≢true h)
is-equal Equal h = refl
is-equal Unequal h = absurd (false≢true h)
is-equal Greater h = absurd (false≢true h)
is-equal AtLeast h = absurd (false≢true h)

-- a constant that is covered by a constant is the same integer
covered-constant : (a b : Stride) → a.modulus ≡ 0 → covers a b ≡ true → a.remainder ≡ b.remainder
covered-constant a b z t = sym (only-remainder a.modulus b.remainder a.remainder z (covers_sound a b t b.remainder (congruent-refl b.modulus b.remainder)))

pub narrows-means : (a : Stride) (rel : Relation) (b : Stride) → Narrows a rel b (narrows a rel b)
narrows-means a rel b = record { equal = equal; failed = failed; otherwise = otherwise }
  where
    takes : Bool
    takes = is_equal rel && covers a b

    fails : Bool
    fails = constant a && constant b && not (holds rel a.remainder b.remainder)

    taken : takes ≡ true → (rel ≡ Equal) × (covers a b ≡ true)
    taken t = let p = and_parts (is_equal rel) (covers a b) t in (is-equal rel p.0, p.1)

    equal : rel ≡ Equal → NoMore b a → narrows a rel b ≡ Some b
    equal e n = cond-true _ _ _ (and_from _ _ (ap is_equal e) (covers-complete a b n))

    failing : fails ≡ true → (a.modulus ≡ 0) × (b.modulus ≡ 0) × (holds rel a.remainder b.remainder ≡ false)
    failing t =
        let p = and_parts (constant a && constant b) (not (holds rel a.remainder b.remainder)) t in
        let q = and_parts (constant a) (constant b) p.0 in
        (eqb-true a.modulus 0 q.0, eqb-true b.modulus 0 q.1, not-true _ p.1)

    failed : a.modulus ≡ 0 → b.modulus ≡ 0 → holds rel a.remainder b.remainder ≡ false → narrows a rel b ≡ None
    failed h i f = ⊎_elim
        (λ t. absurd (both_ways _ f (ap (λ r. holds r a.remainder b.remainder) (taken t).0 ∙ test-from-eq (covered-constant a b h (taken t).1))))
        (λ t. cond-false _ _ _ t ∙ cond-true _ _ _ (and_from _ _ (and_from _ _ (eq-eqb a.modulus 0 h) (eq-eqb b.modulus 0 i)) (not_from_false _ f)))
        (cases_Bool takes)

    otherwise : (rel ≡ Equal → NoMore b a → ⊥) → (a.modulus ≡ 0 → b.modulus ≡ 0 → holds rel a.remainder b.remainder ≡ false → ⊥) → narrows a rel b ≡ Some a
    otherwise n f =
        let s : takes ≡ false = ⊎_elim (λ t. absurd (n (taken t).0 ((covers-exactly a b).0 (taken t).1))) (λ t. t) (cases_Bool takes) in
        let r : fails ≡ false = ⊎_elim (λ t. absurd (f (failing t).0 (failing t).1 (failing t).2)) (λ t. t) (cases_Bool fails) in
        cond-false _ _ _ s ∙ cond-false _ _ _ r

pub examples : Examples
unfolding made gcd gcd_within
examples = record { sum = refl; quotient = refl; product = refl; past = refl; odd_divisor = refl; even_divisor = refl; finer = refl; coarser = refl; equal = refl; failed = refl }
