-- The operations of spans as a domain. Assumes nothing.
use Rattle.std.specs.Prelude.{ℕ, List, [], ◌∷◌, slice_index}
use Rattle.domain.specs.Model.{Ops}
use Rattle.span.specs.declared.Span.{Span}
use Rattle.span.specs.Ends.{covers, read_span, to, whole}
use Rattle.span.specs.Works.{narrowed, works}

-- the cell of every integer: the least and the greatest, the lowest byte first
abbrev pub blank_cell : List ℕ
blank_cell = 0 ∷ 0 ∷ 0 ∷ 128 ∷ 255 ∷ 255 ∷ 255 ∷ 127 ∷ []

abbrev pub span_ops : Ops Span
span_ops = record {
  width = 8;
  blank = λ i. slice_index blank_cell i;
  reads = read_span;
  anything = whole;
  value = to;
  covers = covers;
  works = works;
  narrows = narrowed;
}
