-- Nonzero over a lawful domain is lawful. Assumes nothing but the laws below.
use Rattle.std.specs.Prelude.{◌≡◌, ℕ, suc, ◌+◌, ◌-◌, ◌<◌, ◌≤◌, Bool, true, false, cond, not, ◌||◌, ◌≢◌, List, [], ◌∷◌, map, length, take, drop, ℤ, pos, ◌*ℤ◌, ◌≤ℤ◌, ◌<ℤ◌, is_some, Some, None, Option, ◌==◌, slice_index, unsigned_abs, refl}
use Rattle.std.proofs.Math.Bool.{not-or_self}
use Rattle.std.proofs.Common.{⊎_elim, sym, ap, ap₂, ◌∙◌, mul-pos, arith, take_all}
use Rattle.std.specs.Int.Signed.{≤ℤ_refl}
use Rattle.std.specs.List.{range_with_len}
use Rattle.std.proofs.lemmas.List.FromFn.{length-map-range_with_len, get_or-map-range_with_len, fill_by_all}
use Rattle.std.proofs.lemmas.Int.{ints, unsigned_abs-mul}
use Rattle.std.proofs.lemmas.Bool.{false≢true, and_parts, and_from, and_cases, and_right, or_cases, or_left, or_right, or_from, not-true, not-false, both_ways, eq-eqb, ne_eqb, le-ltb, cond-true, cond-false, cases_eq}
use Rattle.std.proofs.lemmas.Bool.Decides.{nat_tests}
use Rattle.number.specs.Exact.{Int32, eq_z, exact, holds}
use Rattle.number.specs.declared.Op.{Op}
use Rattle.number.specs.declared.Op.TheVariants.{Add, Sub, Mul, Div, IsLess, IsAtMost, IsEqual, IsUnequal}
use Rattle.number.specs.declared.Relation.{Relation}
use Rattle.number.specs.declared.Relation.TheVariants.{Less, AtMost, Equal, Unequal, Greater, AtLeast}
use Rattle.domain.specs.Model.{Ops}
use Rattle.domain.specs.Laws.{Order, Reading, Working, Narrowing, Keeps, blanks}
use Rattle.layers.specs.PairLaws.{pick-byte}
use Rattle.layers.specs.declared.nonzero.Nonzero.{Nonzero}
use Rattle.layers.specs.Marks.{unless0, marking, marked_width, marks_result, away_from0, marked_blank, marked_reads, only0, marks_kept, nonzero_ops}

-- integers and 0

ne-eq_z : (z : ℤ) → z ≢ pos 0 → eq_z z (pos 0) ≡ false
ne-eq_z z h = grind (arith, ints)

eq_z-same : (x y : ℤ) → eq_z x y ≡ true → x ≡ y
eq_z-same x y h = grind (arith, ints)

away : (lo hi z : ℤ) → lo ≤ℤ z → z ≤ℤ hi → away_from0 lo hi ≡ true → z ≢ pos 0
away lo hi z h i e = grind (arith, ints)

none-away : (lo hi : ℤ) → hi <ℤ lo → away_from0 lo hi ≡ false
none-away lo hi h = grind (arith, ints)

unsigned_abs-ne : (z : ℤ) → z ≢ pos 0 → 0 < unsigned_abs z
unsigned_abs-ne z h = omega (arith, ints)

times-ne : (x y : ℤ) → x ≢ pos 0 → y ≢ pos 0 → x *ℤ y ≢ pos 0
times-ne x y h i e = omega (arith, mul-pos (unsigned_abs-ne x h) (unsigned_abs-ne y i), unsigned_abs-mul x y, ap unsigned_abs e)

-- if the left is marked and it covers, the right is marked
mark-covered : (a b : Bool) → (not a || b) ≡ true → a ≡ true → b ≡ true
mark-covered true b h e = h
mark-covered false b h e = absurd (false≢true e)

result-marked : (op : Op) (a b : Bool) (x y : ℤ) → (a ≡ true → x ≢ pos 0) → (b ≡ true → y ≢ pos 0) → marks_result op a b ≡ true → exact op x y ≢ pos 0
result-marked Add a b x y h i m = absurd (false≢true m)
result-marked Sub a b x y h i m = absurd (false≢true m)
result-marked Mul a b x y h i m = let s = and_parts a b m in times-ne x y (h s.0) (i s.1)
result-marked Div a b x y h i m = absurd (false≢true m)
result-marked IsLess a b x y h i m = absurd (false≢true m)
result-marked IsAtMost a b x y h i m = absurd (false≢true m)
result-marked IsEqual a b x y h i m = absurd (false≢true m)
result-marked IsUnequal a b x y h i m = absurd (false≢true m)

module _ {A : Type 0} {D : A → ℤ → Type 0} {o : Ops A} where
  pub nonzero-order : Order D o → Order (unless0 D) (nonzero_ops o)
  nonzero-order l = record {
    anything_describes = λ z h. (l.anything_describes z h, λ e. absurd (false≢true e));
    anything_covers = λ a. and_from _ _ (l.anything_covers a.inner) refl;
    value_describes = λ lo hi z h i j k. (l.value_describes lo hi z h i j k, away lo hi z j k);
    value_empty = λ lo hi h i j. λ t. record { marked = none-away lo hi j t; inner = l.value_empty lo hi h i j t };
    covers_sound = λ a b e z h d. let s = and_parts _ _ e in (l.covers_sound a.inner b.inner s.0 z h d.0, λ m. d.1 (mark-covered _ _ s.1 m));
    covers_self = λ a. and_from _ _ (l.covers_self a.inner) (not-or_self a.marked);
  }

  pub nonzero-working : Working D o → Working (unless0 D) (nonzero_ops o)
  nonzero-working l = record {
    zero_warned = λ op a b x y h i d e w. ⊎_elim (l.zero_warned op a.inner b.inner x y h i d.0 e.0) (λ v. and_right _ _ (ne-eq_z y (e.1 (and_parts _ _ (not-false _ v)).1))) (and_cases _ _ w);
    range_warned = λ op a b x y h i d e w. l.range_warned op a.inner b.inner x y h i d.0 e.0 w;
    result_described = λ op a b x y h i d e z r. (l.result_described op a.inner b.inner x y h i d.0 e.0 z r, result-marked op a.marked b.marked x y d.1 e.1);
  }

-- narrowing

kept-some : {A : Type 0} (D : A → ℤ → Type 0) (x : ℤ) (r : Option A) → Keeps D x r → is_some r ≡ true
kept-some D x (Some v) h = refl
kept-some D x None h = absurd h

marking-kept : {A : Type 0} (D : A → ℤ → Type 0) (x : ℤ) (mark : Bool) (r : Option A) → Keeps D x r → (mark ≡ true → x ≢ pos 0) → Keeps (unless0 D) x (marking mark r)
marking-kept D x mark (Some v) h i = (h, i)
marking-kept D x mark None h i = absurd h

unequal-ne : (x y : ℤ) → not (eq_z x y) ≡ true → x ≡ pos 0 → not (eq_z y (pos 0)) ≡ true
unequal-ne x y h e = grind (arith, ints)

int32-0 : Int32 (pos 0)
int32-0 = record { low = omega (arith, ints); high = omega (arith, ints) }

module _ {A : Type 0} {D : A → ℤ → Type 0} {o : Ops A} (l : Order D o) (m : Narrowing D o) where
  -- what has nothing left but for 0 describes no other integer
  only-0 : (b : A) (y : ℤ) → Int32 y → D b y → only0 o b ≡ true → not (eq_z y (pos 0)) ≢ true
  only-0 b y i e none other =
      both_ways _ (not-true _ none) (kept-some D y _ (m.kept b Unequal (o.value (pos 0) (pos 0)) y (pos 0) i int32-0 e (l.value_describes (pos 0) (pos 0) (pos 0) int32-0 int32-0 (≤ℤ_refl (pos 0)) (≤ℤ_refl (pos 0))) other))

  kept-marked : (rel : Relation) (b : Nonzero A) (x y : ℤ) → Int32 y → unless0 D b y → holds rel x y ≡ true → marks_kept o rel b ≡ true → x ≢ pos 0
  kept-marked Less b x y i e r k = absurd (false≢true k)
  kept-marked AtMost b x y i e r k = absurd (false≢true k)
  kept-marked Equal b x y i e r k = λ z. e.1 k (sym (eq_z-same x y r) ∙ z)
  kept-marked Unequal b x y i e r k = λ z. only-0 b.inner y i e.0 k (unequal-ne x y r z)
  kept-marked Greater b x y i e r k = absurd (false≢true k)
  kept-marked AtLeast b x y i e r k = absurd (false≢true k)

  pub nonzero-narrowing : Narrowing (unless0 D) (nonzero_ops o)
  nonzero-narrowing = record
      { kept = λ a rel b x y h i d e r. marking-kept D x _ _ (m.kept a.inner rel b.inner x y h i d.0 e.0 r) (λ k. ⊎_elim d.1 (kept-marked rel b x y i e r) (or_cases _ _ k)) }

-- cells

width_small : (w : ℕ) → w ≤ 64 → marked_width w ≤ 64
width_small w h = grind (arith, nat_tests)

pub record Wide (w : ℕ) : Type 0 where
  pub inner : w ≢ 0
  pub width : marked_width w ≡ suc w

wide : (w : ℕ) → marked_width w ≢ 0 → Wide w
wide w h = record { inner = grind (arith, nat_tests); width = grind (arith, nat_tests) }

no_value : {A : Type 0} (t mark : Bool) (r : Option A) → r ≡ None → cond t None (marking mark r) ≡ None
no_value true mark r e = refl
no_value false mark r e = ap (marking mark) e

module _ {A : Type 0} {o : Ops A} (l : Reading o) where
  beyond : (i : ℕ) → marked_width o.width ≤ i → marked_blank o i ≡ 0
  beyond i h = ⊎_elim none some (cases_eq (marked_width o.width) 0)
    where
      none : marked_width o.width ≡ 0 → marked_blank o i ≡ 0
      none e = cond-true _ _ _ (or_left _ _ (eq-eqb _ 0 e))

      some : (marked_width o.width ≢ 0) → marked_blank o i ≡ 0
      some e = let w = wide o.width e in cond-false _ _ _ (or_from _ _ (ne_eqb _ 0 e) (ne_eqb i 0 (omega (arith, w.width)))) ∙ l.blank_beyond (i - 1) (omega (arith, w.width))

  -- the blank cell is the mark's 0 and then the blank cell below
  blank-cell : marked_width o.width ≢ 0 → blanks (nonzero_ops o) ≡ 0 ∷ blanks o
  blank-cell h =
      let w = wide o.width h in
      ap (λ n. map (marked_blank o) (range_with_len 0 n)) w.width
      ∙ ap₂ ◌∷◌ (cond-true _ _ _ (or_right _ _ (eq-eqb 0 0 refl)))
      (fill_by_all o.blank (map (marked_blank o) (range_with_len (0 + 1) o.width)) o.width 0 (length-map-range_with_len (marked_blank o) 1 o.width) (λ k i. get_or-map-range_with_len (marked_blank o) 1 o.width k (1 + k) 0 i refl ∙ cond-false _ _ _ (or_from _ _ (ne_eqb _ 0 h) (ne_eqb (1 + k) 0 (omega arith))) ∙ ap o.blank (omega arith)))

  other_length : (cell : List ℕ) → length cell ≢ marked_width o.width → marked_reads o cell ≡ None
  other_length [] h = refl
  other_length (m ∷ bs) h = ⊎_elim none some (cases_eq (marked_width o.width) 0)
    where
      none : marked_width o.width ≡ 0 → marked_reads o (m ∷ bs) ≡ None
      none e = cond-true _ _ _ (or_left _ _ (eq-eqb _ 0 e))

      some : (marked_width o.width ≢ 0) → marked_reads o (m ∷ bs) ≡ None
      some e = let w = wide o.width e in no_value _ _ _ (l.other_length bs (λ n. h (ap suc n ∙ sym w.width)))

  no_width : marked_width o.width ≡ 0 → (cell : List ℕ) → marked_reads o cell ≡ None
  no_width e [] = refl
  no_width e (m ∷ bs) = cond-true _ _ _ (or_left _ _ (eq-eqb _ 0 e))

  pub nonzero-reading : Reading (nonzero_ops o)
  nonzero-reading = record {
    width_small = width_small o.width l.width_small;
    blank_byte = λ i. pick-byte _ 0 _ (omega arith) (l.blank_byte (i - 1));
    blank_beyond = beyond;
    blank_reads = λ h. ap (marked_reads o) (blank-cell h) ∙ cond-false _ _ _ (or_from _ _ (ne_eqb _ 0 h) refl) ∙ ap (marking false) (l.blank_reads (wide o.width h).inner);
    other_length = other_length;
    no_width = no_width;
  }

-- the code takes the first byte and the rest; the model takes the list apart
pub read-rest : {A : Type 0} (o : Ops A) (cell : List ℕ) (inner : Option A) → 1 ≤ length cell → marked_width o.width ≢ 0 → slice_index cell 0 ≤ 1 → inner ≡ o.reads (take (length cell - 1) (drop 1 cell)) → marking (slice_index cell 0 == 1) inner ≡ marked_reads o cell
read-rest o [] inner h w m e = absurd (omega arith)
read-rest o (b ∷ bs) inner h w m e = ap (marking (b == 1)) (e ∙ ap o.reads (take_all _ bs (omega arith))) ∙ sym (cond-false _ _ _ (or_from _ _ (ne_eqb _ 0 w) (le-ltb 1 b m)))
