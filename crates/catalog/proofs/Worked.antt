-- The worked cases hold. Assumes nothing.
use Rattle.std.proofs.Common.{◌≡◌, Bool, true, false, cond, ◌&&◌, pos, refl}
use Rattle.number.specs.Means as numbers
use Rattle.number.specs.declared.Op.TheVariants.{Div}
use Rattle.span.proofs.Worked as spans
use Rattle.span.specs.Ends.{spanned, spanned_by, whole}
use Rattle.stride.proofs.RuleProofs as strides
use Rattle.stride.specs.declared.value.Stride.{Stride}
use Rattle.stride.specs.Strides.{made, constant, strided, works}
use Rattle.catalog.specs.Examples.{Examples}

numbers-examples : numbers.Examples
numbers-examples = record { toward_zero = refl; past_the_greatest = refl; by_zero = refl }

quiet : (t : Bool) (r s : Stride × Bool × Bool) → s.1 ≡ false → (cond (t && false) r s).1 ≡ false
quiet true r s e = e
quiet false r s e = e

-- to divide by an odd number does not warn of zero
odd-quiet : (a : Stride) → (works Div a (strided 2 (pos 1))).1 ≡ false
unfolding made
odd-quiet a = quiet (constant a) _ _ refl

pub examples : Examples
unfolding spanned spanned_by whole made
examples = record {
  of_numbers = numbers-examples;
  of_spans = spans.examples;
  of_strides = strides.examples;
  marked_hole = refl;
  pair_divided = λ a. odd-quiet a.second;
  eight_spans = refl;
  nine_spans = refl;
}
