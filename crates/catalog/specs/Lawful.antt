-- Each domain that ships keeps the laws. Assumes nothing.
use Rattle.std.specs.Prelude.{◌≡◌, ℕ, zero, suc, ◌≢◌, List, [], ◌∷◌, length, None, refl}
use Rattle.std.proofs.Common.{arith, lit<, lit≤}
use Rattle.domain.specs.Carrier.{Lawful}
use Rattle.domain.specs.Laws.{Order, Reading, Working, Narrowing}
use Rattle.domain.specs.Nothing as Nothing
use Rattle.span.specs.SpanLaws.{span-order, span-reading, span-working, span-narrowing}
use Rattle.stride.specs.StrideLaws.{stride-order, stride-reading, stride-working, stride-narrowing}
use Rattle.catalog.specs.Shipped.{shipped}

nothing-order : Order Nothing.describes Nothing.ops
nothing-order = record {
  anything_describes = λ z i. tt;
  anything_covers = λ a. refl;
  value_describes = λ lo hi z i j p q. tt;
  value_empty = λ lo hi i j p. refl;
  covers_sound = λ a b c z i d. tt;
  covers_self = λ a. refl;
}

other_length : (cell : List ℕ) → length cell ≢ 1 → Nothing.reads cell ≡ None
other_length [] ne = refl
other_length (zero ∷ []) ne = absurd (ne refl)
other_length (zero ∷ (b ∷ bs)) ne = refl
other_length (suc n ∷ bs) ne = refl

nothing-reading : Reading Nothing.ops
nothing-reading = record {
  width_small = lit≤ tt;
  blank_byte = λ i. lit< tt;
  blank_beyond = λ i p. refl;
  blank_reads = λ p. refl;
  other_length = other_length;
  no_width = λ p cell. absurd (omega (arith, p));
}

-- it always warns
nothing-working : Working Nothing.describes Nothing.ops
nothing-working = record {
  zero_warned = λ op a b x y i j d e p. cc p;
  range_warned = λ op a b x y i j d e p. cc p;
  result_described = λ op a b x y i j d e p q. tt;
}

nothing-narrowing : Narrowing Nothing.describes Nothing.ops
nothing-narrowing = record { kept = λ a rel b x y i j d e p. tt }

pub shipped-lawful : (i : ℕ) → Lawful (shipped i)
shipped-lawful zero = record { order = span-order; reading = span-reading; working = span-working; narrowing = span-narrowing }
shipped-lawful (suc zero) = record { order = stride-order; reading = stride-reading; working = stride-working; narrowing = stride-narrowing }
shipped-lawful (suc (suc i)) = record { order = nothing-order; reading = nothing-reading; working = nothing-working; narrowing = nothing-narrowing }
