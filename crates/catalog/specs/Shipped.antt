-- The domains that ship below the layers, by number. Assumes nothing.
use Rattle.std.specs.Prelude.{ℕ, zero, suc}
use Rattle.domain.specs.Carrier.{Dom, as_dom}
use Rattle.domain.specs.Nothing as Nothing
use Rattle.domain.specs.declared.unknown.Unknown.{Unknown}
use Rattle.span.specs.declared.Span.{Span}
use Rattle.span.specs.Ends.{Within}
use Rattle.span.specs.Model.{span_ops}
use Rattle.stride.specs.declared.value.Stride.{Stride}
use Rattle.stride.specs.Strides as Strides

-- 0 is spans, 1 strides, and every other the domain that knows nothing
abbrev pub shipped : ℕ → Dom
shipped zero = as_dom Span Within span_ops
shipped (suc zero) = as_dom Stride Strides.describes Strides.stride_ops
shipped (suc (suc i)) = as_dom Unknown Nothing.describes Nothing.ops
