use Rattle.std.proofs.Common.{refl}
use Rattle.span.specs.Ends.{whole}
use Rattle.span.specs.Made.{span-eq}
use Rattle.span.proofs.Span.whole.Goals as goal

pub returns : goal.returns
unfolding whole
returns c = span-eq _ whole refl refl
