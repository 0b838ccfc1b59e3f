-- Spans and their ends, and the one place where spans are made. Assumes nothing.
use Rattle.std.specs.Prelude.{◌≡◌, ℕ, ◌+◌, ◌*◌, Bool, true, false, cond, ◌&&◌, List, length, ℤ, ◌≤ℤ◌, Some, None, Option, ◌==◌, int_le, slice_index, refl}
use Rattle.std.specs.Int.{w32}
use Rattle.std.proofs.Common.{to_z}
use Rattle.std.proofs.lemmas.Bool.{and_parts}
use Rattle.number.specs.Exact.{least, greatest}
use Rattle.number.proofs.Order.{le-from-test}
use Rattle.span.specs.declared.Span.{Span}

-- the span describes z: z lies between its ends
pub record Within (s : Span) (z : ℤ) : Type 0 where
  pub from : s.lo ≤ℤ z
  pub to : z ≤ℤ s.hi

-- lo and hi are the ends of a span
abbrev pub are_ends : ℤ → ℤ → Bool
are_ends lo hi = int_le least lo && (int_le lo hi && int_le hi greatest)

unfoldable pub spanned_by : (lo hi : ℤ) (t : Bool) → are_ends lo hi ≡ t → Option Span
spanned_by lo hi true e =
    let outer = and_parts (int_le least lo) (int_le lo hi && int_le hi greatest) e in
    let inner = and_parts (int_le lo hi) (int_le hi greatest) outer.1 in
    Some (record { lo = lo; hi = hi; low = le-from-test outer.0; ordered = le-from-test inner.0; high = le-from-test inner.1 })
spanned_by lo hi false e = None

-- the span from lo to hi, if they are its ends
unfoldable pub spanned : ℤ → ℤ → Option Span
unfolding spanned_by
spanned lo hi = spanned_by lo hi (are_ends lo hi) refl

-- every integer of 32 bits
unfoldable pub whole : Span
whole = record { lo = least; hi = greatest; low = le-from-test refl; ordered = le-from-test refl; high = le-from-test refl }

abbrev pub or_whole : Option Span → Span
or_whole (Some s) = s
or_whole None = whole

-- lo..hi
abbrev pub to : ℤ → ℤ → Span
to lo hi = or_whole (spanned lo hi)

-- the test whether a span describes z
abbrev pub has : Span → ℤ → Bool
has s z = int_le s.lo z && int_le z s.hi

-- the first describes all that the second does
abbrev pub Covers : Span → Span → Type 0
Covers a b = (z : ℤ) → Within b z → Within a z

-- the ends of the second lie within the first
abbrev pub covers : Span → Span → Bool
covers a b = int_le a.lo b.lo && int_le b.hi a.hi

-- the four bytes of a cell from an index on, the lowest byte first, as a signed number
abbrev pub word : List ℕ → ℕ → ℤ
word bs i = to_z w32 (slice_index bs i + slice_index bs (i + 1) * 256 + slice_index bs (i + 2) * 65536 + slice_index bs (i + 3) * 16777216)

-- a cell of 8 bytes: the two ends
abbrev pub read_span : List ℕ → Option Span
read_span bs = cond (length bs == 8) (spanned (word bs 0) (word bs 4)) None
