-- What operations and narrowing give on spans. Assumes nothing.
use Rattle.std.specs.Prelude.{Bool, true, false, cond, ◌&&◌, ◌||◌, ℤ, pos, negsuc, ◌+ℤ◌, ◌-ℤ◌, Some, None, Option, int_le, int_lt}
use Rattle.std.specs.Int.{int_min, int_max}
use Rattle.number.specs.declared.Op.{Op}
use Rattle.number.specs.declared.Op.TheVariants.{Add, Sub, Mul, Div, IsLess, IsAtMost, IsEqual, IsUnequal}
use Rattle.number.specs.declared.Relation.{Relation}
use Rattle.number.specs.declared.Relation.TheVariants.{Less, AtMost, Equal, Unequal, Greater, AtLeast}
use Rattle.number.specs.Exact.{least, exact, eq_z, opposite, truth}
use Rattle.span.specs.declared.Span.{Span}
use Rattle.span.specs.Ends.{has, or_whole, spanned, to, whole}

-- ---- corners

-- the least and the greatest result over the four pairs of ends
abbrev pub lowest : (ℤ → ℤ → ℤ) → Span → Span → ℤ
lowest f a b = int_min (int_min (f a.lo b.lo) (f a.lo b.hi)) (int_min (f a.hi b.lo) (f a.hi b.hi))

abbrev pub highest : (ℤ → ℤ → ℤ) → Span → Span → ℤ
highest f a b = int_max (int_max (f a.lo b.lo) (f a.lo b.hi)) (int_max (f a.hi b.lo) (f a.hi b.hi))

-- the span between the corners, if they are of 32 bits
abbrev pub cornered : Op → Span → Span → Option Span
cornered op a b = spanned (lowest (exact op) a b) (highest (exact op) a b)

-- ---- results: a value, the zero warning, the range warning

-- a sum, difference or product: the span between the corners, or the range warning
abbrev pub ranged : Option Span → Span × Bool × Bool
ranged (Some s) = (s, false, false)
ranged None = (whole, false, true)

-- a quotient: with a warning, every integer
abbrev pub warned : Bool → Bool → Span → Span × Bool × Bool
warned zero range s = (cond (zero || range) whole s, zero, range)

-- ---- comparisons

-- the relation holds between every integer of a and every integer of b
abbrev pub always : Relation → Span → Span → Bool
always Less a b = int_lt a.hi b.lo
always AtMost a b = int_le a.hi b.lo
always Equal a b = int_le a.hi b.lo && int_le b.hi a.lo
always Unequal a b = int_lt a.hi b.lo || int_lt b.hi a.lo
always Greater a b = int_lt b.hi a.lo
always AtLeast a b = int_le b.hi a.lo

-- 1 where it always holds, 0 where its opposite does, else 0 or 1
abbrev pub verdict : Bool → Bool → Span
verdict true never = to (pos 1) (pos 1)
verdict false true = to (pos 0) (pos 0)
verdict false false = to (pos 0) (pos 1)

abbrev pub judged : Relation → Span → Span → Span
judged rel a b = verdict (always rel a b) (always (opposite rel) a b)

-- ---- all operations

abbrev pub works : Op → Span → Span → Span × Bool × Bool
works Add a b = ranged (cornered Add a b)
works Sub a b = ranged (cornered Sub a b)
works Mul a b = ranged (cornered Mul a b)
works Div a b = warned (has b (pos 0)) (has a least && has b (negsuc 0)) (or_whole (cornered Div a b))
works IsLess a b = (judged Less a b, false, false)
works IsAtMost a b = (judged AtMost a b, false, false)
works IsEqual a b = (judged Equal a b, false, false)
works IsUnequal a b = (judged Unequal a b, false, false)

-- ---- narrowing

-- the span describes z and nothing else
abbrev pub only : Span → ℤ → Bool
only s z = eq_z s.lo z && eq_z s.hi z

-- what is left of a where it stands in the relation to b
abbrev pub narrowed : Span → Relation → Span → Option Span
narrowed a Less b = spanned a.lo (int_min a.hi (b.hi -ℤ pos 1))
narrowed a AtMost b = spanned a.lo (int_min a.hi b.hi)
narrowed a Equal b = spanned (int_max a.lo b.lo) (int_min a.hi b.hi)
narrowed a Unequal b = spanned (a.lo +ℤ truth (only b a.lo)) (a.hi -ℤ truth (only b a.hi))
narrowed a Greater b = spanned (int_max a.lo (b.lo +ℤ pos 1)) a.hi
narrowed a AtLeast b = spanned (int_max a.lo b.lo) a.hi
