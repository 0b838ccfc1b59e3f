-- Nonzero over a domain: a mark that the value is not 0, and a value of the domain. Assumes nothing.
use Rattle.std.specs.Prelude.{◌≡◌, ℕ, ◌+◌, ◌-◌, Bool, true, false, cond, not, ◌&&◌, ◌||◌, ◌≢◌, List, [], ◌∷◌, ℤ, pos, is_some, Some, None, Option, ◌==◌, int_le, int_lt, nat_lt}
use Rattle.number.specs.Exact.{divides}
use Rattle.number.specs.declared.Op.{Op}
use Rattle.number.specs.declared.Op.TheVariants.{Add, Sub, Mul, Div, IsLess, IsAtMost, IsEqual, IsUnequal}
use Rattle.number.specs.declared.Relation.{Relation}
use Rattle.number.specs.declared.Relation.TheVariants.{Less, AtMost, Equal, Unequal, Greater, AtLeast}
use Rattle.domain.specs.Model.{Ops}
use Rattle.layers.specs.declared.nonzero.Nonzero.{Nonzero}

-- what the domain below describes; without 0 where the value is marked
abbrev pub unless0 : {A : Type 0} → (A → ℤ → Type 0) → Nonzero A → ℤ → Type 0
unless0 D v z = D v.inner z × (v.marked ≡ true → z ≢ pos 0)

-- a value with its mark, where there is a value
abbrev pub marking : {A : Type 0} → Bool → Option A → Option (Nonzero A)
marking mark (Some v) = Some (record { marked = mark; inner = v })
marking mark None = None

-- one byte more than the domain below; 0 where that has no cell, and where one more would be too many
abbrev pub marked_width : ℕ → ℕ
marked_width w = cond (w == 0 || w == 64) 0 (w + 1)

-- the product of two marked values is marked, and no other result
abbrev pub marks_result : Op → Bool → Bool → Bool
marks_result Add a b = false
marks_result Sub a b = false
marks_result Mul a b = a && b
marks_result Div a b = false
marks_result IsLess a b = false
marks_result IsAtMost a b = false
marks_result IsEqual a b = false
marks_result IsUnequal a b = false

-- 0 lies outside of lo to hi, and something lies inside
abbrev pub away_from0 : ℤ → ℤ → Bool
away_from0 lo hi = int_le lo hi && (int_lt (pos 0) lo || int_lt hi (pos 0))

module _ {A : Type 0} (o : Ops A) where
  -- the mark's byte 0, and then the blank bytes of the domain below
  abbrev pub marked_blank : ℕ → ℕ
  marked_blank i = cond (marked_width o.width == 0 || i == 0) 0 (o.blank (i - 1))

  -- the mark is the first byte, 0 or 1
  abbrev pub marked_reads : List ℕ → Option (Nonzero A)
  marked_reads [] = None
  marked_reads (m ∷ bs) = cond (marked_width o.width == 0 || nat_lt 1 m) None (marking (m == 1) (o.reads bs))

  -- the value below describes 0 alone, or nothing
  abbrev pub only0 : A → Bool
  only0 v = not (is_some (o.narrows v Unequal (o.value (pos 0) (pos 0))))

  -- what a relation to b adds to the mark of what is narrowed
  abbrev pub marks_kept : Relation → Nonzero A → Bool
  marks_kept Less b = false
  marks_kept AtMost b = false
  marks_kept Equal b = b.marked
  marks_kept Unequal b = only0 b.inner
  marks_kept Greater b = false
  marks_kept AtLeast b = false

  -- the result below with its mark; to divide by a marked value gives no zero warning
  abbrev pub marked_result : Op → Nonzero A → Nonzero A → A × Bool × Bool → Nonzero A × Bool × Bool
  marked_result op a b r = (record { marked = marks_result op a.marked b.marked; inner = r.0 }, r.1 && not (divides op && b.marked), r.2)

  abbrev pub nonzero_ops : Ops (Nonzero A)
  nonzero_ops = record {
    width = marked_width o.width;
    blank = marked_blank;
    reads = marked_reads;
    anything = record { marked = false; inner = o.anything };
    value = λ lo hi. record { marked = away_from0 lo hi; inner = o.value lo hi };
    covers = λ a b. o.covers a.inner b.inner && (not a.marked || b.marked);
    works = λ op a b. marked_result op a b (o.works op a.inner b.inner);
    narrows = λ a rel b. marking (a.marked || marks_kept rel b) (o.narrows a.inner rel b.inner);
  }
