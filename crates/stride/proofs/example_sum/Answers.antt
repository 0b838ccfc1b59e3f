use Rattle.std.proofs.Common.{◌∙◌, ap₂}
use Rattle.number.specs.declared.Op.TheVariants.{Add}
use Rattle.stride.specs.Strides.{works}
use Rattle.stride.proofs.RuleProofs.{examples}
use Rattle.stride.proofs.example_sum.Goals as goal

pub returns : goal.returns
returns c = record { answers = c.work.ensures.model ∙ ap₂ (works Add) c.strided.ensures c.strided-2.ensures ∙ examples.sum; means = examples }
