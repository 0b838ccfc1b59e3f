-- Cases worked out, over the definitions of every domain. Assumes nothing.
-- A span is written lo..hi, a stride (modulus, remainder).
use Rattle.std.specs.Prelude.{◌≡◌, Bool, true, false, pos, negsuc, Some}
use Rattle.number.specs.declared.Op.TheVariants.{Div}
use Rattle.number.specs.declared.Relation.TheVariants.{Unequal}
use Rattle.number.specs.Means as numbers
use Rattle.domain.specs.Model.{Ops}
use Rattle.span.specs.declared.Span.{Span}
use Rattle.span.specs.Ends.{to}
use Rattle.span.specs.Examples as spans
use Rattle.span.specs.Model.{span_ops}
use Rattle.stride.specs.declared.value.Stride.{Stride}
use Rattle.stride.specs.Rules as strides
use Rattle.stride.specs.Strides.{strided, stride_ops}
use Rattle.layers.specs.declared.pair.Pair.{Pair}
use Rattle.layers.specs.declared.nonzero.Nonzero.{Nonzero}
use Rattle.layers.specs.Pairs.{pair_ops}
use Rattle.layers.specs.Marks.{nonzero_ops}

-- -5..5 without a mark, and with one
abbrev pub around : Bool → Nonzero Span
around mark = record { marked = mark; inner = to (negsuc 4) (pos 5) }

-- -5..5 and the odd numbers
abbrev pub odd_around : Pair Span Stride
odd_around = record { first = to (negsuc 4) (pos 5); second = strided 2 (pos 1) }

-- two spans paired, and four
abbrev pub spans2 : Ops (Pair Span Span)
spans2 = pair_ops span_ops span_ops

abbrev pub spans4 : Ops (Pair (Pair Span Span) (Pair Span Span))
spans4 = pair_ops spans2 spans2

pub record Examples : Type 0 where
  -- 7 ÷ -2 is -3, toward zero; -2^31 ÷ -1 is a range trap; 1 ÷ 0 is a zero trap
  pub of_numbers : numbers.Examples
  -- -3..2 × -4..5 is -15..12; -5..5 narrowed by ≠ 0..0 is -5..5; 7..7 ÷ -5..5 warns of zero; and others
  pub of_spans : spans.Examples
  -- (2, 1) + (4, 3) is (2, 0), with the range warning; and others
  pub of_strides : strides.Examples
  -- under nonzero, -5..5 narrowed by ≠ 0..0 becomes marked
  pub marked_hole : (nonzero_ops span_ops).narrows (around false) Unequal ((nonzero_ops span_ops).value (pos 0) (pos 0)) ≡ Some (around true)
  -- nothing warns of zero that is divided by -5..5 paired with (2, 1)
  pub pair_divided : (a : Pair Span Stride) → ((pair_ops span_ops stride_ops).works Div a odd_around).1 ≡ false
  -- eight spans paired have cells of 64 bytes, and nine have none
  pub eight_spans : (pair_ops spans4 spans4).width ≡ 64
  pub nine_spans : (pair_ops (pair_ops spans4 spans4) span_ops).width ≡ 0
