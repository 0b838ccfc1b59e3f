-- The pair of two lawful domains is lawful. Assumes nothing but their laws.
use Rattle.std.specs.Prelude.{◌≡◌, ℕ, ◌+◌, ◌-◌, ◌<◌, ◌≤◌, Bool, true, false, cond, not, ◌||◌, ◌≢◌, ◌⊎◌, length, take, drop, ℤ, Some, None, Option, ◌==◌, nat_le, nat_lt, slice_index}
use Rattle.std.proofs.Common.{inl, inr, ⊎_elim, ap, ap₂, ◌∙◌, arith, length-take, length-drop, get_or-take, get_or-drop}
use Rattle.std.proofs.lemmas.List.FromFn.{length-map-range_with_len, get_or-map-range_with_len, fill_by_all}
use Rattle.std.proofs.lemmas.Bool.{and_parts, and_from, and_cases, or_left, or_right, or_from, not_from_true, not_from_false, le-leb, lt-leb, lt-ltb, le-ltb, eq-eqb, ne_eqb, cond-true, cond-false}
use Rattle.std.proofs.lemmas.Bool.Decides.{nat_tests}
use Rattle.domain.specs.Model.{Ops}
use Rattle.domain.specs.Laws.{Order, Reading, Working, Narrowing, Keeps, blanks}
use Rattle.layers.specs.Pairs.{both, both_of, pair_width, pair_blank, pair_reads, pair_ops}

both-kept : {A B : Type 0} (D : A → ℤ → Type 0) (E : B → ℤ → Type 0) (x : ℤ) (r : Option A) (s : Option B) → Keeps D x r → Keeps E x s → Keeps (both D E) x (both_of r s)
both-kept D E x (Some a) (Some b) h i = (h, i)
both-kept D E x (Some a) None h i = absurd i
both-kept D E x None s h i = absurd h

module _ {A B : Type 0} {D : A → ℤ → Type 0} {E : B → ℤ → Type 0} {p : Ops A} {q : Ops B} where
  pub pair-order : Order D p → Order E q → Order (both D E) (pair_ops p q)
  pair-order l m = record {
    anything_describes = λ z h. (l.anything_describes z h, m.anything_describes z h);
    anything_covers = λ a. and_from _ _ (l.anything_covers a.first) (m.anything_covers a.second);
    value_describes = λ lo hi z h i j k. (l.value_describes lo hi z h i j k, m.value_describes lo hi z h i j k);
    value_empty = λ lo hi h i j. λ t. record { first = l.value_empty lo hi h i j t; second = m.value_empty lo hi h i j t };
    covers_sound = λ a b e z h d. let s = and_parts _ _ e in (l.covers_sound a.first b.first s.0 z h d.0, m.covers_sound a.second b.second s.1 z h d.1);
    covers_self = λ a. and_from _ _ (l.covers_self a.first) (m.covers_self a.second);
  }

  pub pair-working : Working D p → Working E q → Working (both D E) (pair_ops p q)
  pair-working l m = record {
    zero_warned = λ op a b x y h i d e w. ⊎_elim (l.zero_warned op a.first b.first x y h i d.0 e.0) (m.zero_warned op a.second b.second x y h i d.1 e.1) (and_cases _ _ w);
    range_warned = λ op a b x y h i d e w. ⊎_elim (l.range_warned op a.first b.first x y h i d.0 e.0) (m.range_warned op a.second b.second x y h i d.1 e.1) (and_cases _ _ w);
    result_described = λ op a b x y h i d e z r. (l.result_described op a.first b.first x y h i d.0 e.0 z r, m.result_described op a.second b.second x y h i d.1 e.1 z r);
  }

  pub pair-narrowing : Narrowing D p → Narrowing E q → Narrowing (both D E) (pair_ops p q)
  pair-narrowing l m = record
      { kept = λ a rel b x y h i d e r. both-kept D E x _ _ (l.kept a.first rel b.first x y h i d.0 e.0 r) (m.kept a.second rel b.second x y h i d.1 e.1 r) }

-- what a pair's width says of the two widths
pub record Wide (a b : ℕ) : Type 0 where
  pub first : a ≢ 0
  pub second : b ≢ 0
  pub sum : pair_width a b ≡ a + b
  pub small : a + b ≤ 64

pub wide : (a b : ℕ) → pair_width a b ≢ 0 → Wide a b
wide a b h = record { first = grind (arith, nat_tests); second = grind (arith, nat_tests); sum = grind (arith, nat_tests); small = grind (arith, nat_tests) }

pair_width-small : (a b : ℕ) → pair_width a b ≤ 64
pair_width-small a b = grind (arith, nat_tests)

-- a byte is below 256 if the byte of either case is
pub pick-byte : (t : Bool) (x y : ℕ) → x < 256 → y < 256 → cond t x y < 256
pick-byte true x y h i = h
pick-byte false x y h i = i

-- no cell but one of the width reads as a pair
other-cell : {X : Type 0} (w n : ℕ) (r : Option X) → (w ≡ 0) ⊎ (n ≢ w) → cond (w == 0 || not (n == w)) None r ≡ None
other-cell w n r h = cond-true _ _ _ (not_wide h)
  where
    not_wide : (w ≡ 0) ⊎ (n ≢ w) → (w == 0 || not (n == w)) ≡ true
    not_wide (inl e) = or_left _ _ (eq-eqb w 0 e)
    not_wide (inr e) = or_right _ _ (not_from_false _ (ne_eqb n w e))

module _ {A B : Type 0} {p : Ops A} {q : Ops B} (l : Reading p) (m : Reading q) where
  blank_byte : (i : ℕ) → pair_blank p q i < 256
  blank_byte i = pick-byte (nat_le (pair_width p.width q.width) i) 0 _ (omega arith) (pick-byte (nat_lt i p.width) _ _ (l.blank_byte i) (m.blank_byte (i - p.width)))

-- the blank cell of a pair is the first's and then the second's
module _ {A B : Type 0} (p : Ops A) (q : Ops B) (w : Wide p.width q.width) where
  below-first : (i : ℕ) → i < p.width → pair_blank p q i ≡ p.blank i
  below-first i h = cond-false _ _ _ (lt-leb (pair_width p.width q.width) i (omega (arith, w.sum))) ∙ cond-true _ _ _ (lt-ltb i p.width h)

  past_first : (i : ℕ) → i < q.width → pair_blank p q (p.width + i) ≡ q.blank i
  past_first i h = cond-false _ _ _ (lt-leb (pair_width p.width q.width) (p.width + i) (omega (arith, w.sum))) ∙ cond-false _ _ _ (le-ltb (p.width + i) p.width (omega arith)) ∙ ap q.blank (omega arith)

  cell-length : length (blanks (pair_ops p q)) ≡ p.width + q.width
  cell-length = length-map-range_with_len (pair_blank p q) 0 (pair_width p.width q.width) ∙ w.sum

  cell_at : (i : ℕ) → i < p.width + q.width → slice_index (blanks (pair_ops p q)) i ≡ pair_blank p q i
  cell_at i h = get_or-map-range_with_len (pair_blank p q) 0 (pair_width p.width q.width) i i 0 (omega (arith, w.sum)) (omega arith)

  first_cell : take p.width (blanks (pair_ops p q)) ≡ blanks p
  first_cell = fill_by_all p.blank _ p.width 0 (simp length-take (omega (arith, cell-length)))
      (λ k h. get_or-take p.width _ k 0 h ∙ cell_at k (omega arith) ∙ below-first k h)

  second-cell : drop p.width (blanks (pair_ops p q)) ≡ blanks q
  second-cell = fill_by_all q.blank _ q.width 0 (simp length-drop (omega (arith, cell-length)))
      (λ k h. get_or-drop p.width _ k 0 ∙ cell_at (p.width + k) (omega arith) ∙ past_first k h)

module _ {A B : Type 0} {p : Ops A} {q : Ops B} (l : Reading p) (m : Reading q) where
  blank-cell : pair_width p.width q.width ≢ 0 → pair_reads p q (blanks (pair_ops p q)) ≡ Some (pair_ops p q).anything
  blank-cell h =
      let w = wide p.width q.width h in
      cond-false _ _ _ (or_from _ _ (ne_eqb _ 0 h) (not_from_true _ (eq-eqb _ _ (length-map-range_with_len (pair_blank p q) 0 (pair_width p.width q.width)))))
      ∙ ap₂ both_of (ap p.reads (first_cell p q w) ∙ l.blank_reads w.first) (ap q.reads (second-cell p q w) ∙ m.blank_reads w.second)

  pub pair-reading : Reading (pair_ops p q)
  pair-reading = record {
    width_small = pair_width-small p.width q.width;
    blank_byte = blank_byte l m;
    blank_beyond = λ i h. cond-true _ _ _ (le-leb (pair_width p.width q.width) i h);
    blank_reads = blank-cell;
    other_length = λ cell h. other-cell _ _ _ (inr h);
    no_width = λ h cell. other-cell _ _ _ (inl h);
  }
