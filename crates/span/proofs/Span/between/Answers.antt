use Rattle.std.proofs.Common.{arith}
use Rattle.std.proofs.lemmas.Int.{ints}
use Rattle.span.specs.Made.{spanned-is, none-low, none-order, none-high}
use Rattle.span.proofs.Span.between.Goals as goal

pub returns : goal.returns
returns c = spanned-is _ c.args.lo c.args.hi (omega (arith, ints)) (omega (arith, ints))

pub returns-then-lo-lt-LEAST : goal.returns-then-lo-lt-LEAST
returns-then-lo-lt-LEAST c = none-low c.args.lo c.args.hi (omega (arith, ints))

pub returns-then-hi-lo : goal.returns-then-hi-lo
returns-then-hi-lo c = none-order c.args.lo c.args.hi (omega (arith, ints))

pub returns-then-hi-gt-GREATEST : goal.returns-then-hi-gt-GREATEST
returns-then-hi-gt-GREATEST c = none-high c.args.lo c.args.hi (omega (arith, ints))
