-- What each name stands for: "anything" in each domain that ships, in its operations. Assumes nothing.
use Rattle.span.specs.Model.{span_ops}
use Rattle.stride.specs.Strides.{stride_ops}
use Rattle.layers.specs.Pairs.{pair_ops}
use Rattle.layers.specs.Marks.{nonzero_ops}
use Rattle.catalog.specs.Examples.{spans2, spans4}
use Rattle.catalog.specs.declared.Named.{Named}

abbrev pub anythings : Named
anythings = record {
  spans = span_ops.anything;
  strides = stride_ops.anything;
  nonzero_spans = (nonzero_ops span_ops).anything;
  nonzero_strides = (nonzero_ops stride_ops).anything;
  spans_strides = (pair_ops span_ops stride_ops).anything;
  strides_spans = (pair_ops stride_ops span_ops).anything;
  nonzero_spans_strides = (pair_ops (nonzero_ops span_ops) stride_ops).anything;
  nonzero_pair = (nonzero_ops (pair_ops span_ops stride_ops)).anything;
  spans_nonzero_strides = (pair_ops span_ops (nonzero_ops stride_ops)).anything;
  spans2 = spans2.anything;
  spans8 = (pair_ops spans4 spans4).anything;
  spans9 = (pair_ops (pair_ops spans4 spans4) span_ops).anything;
}
