-- The examples of spans hold. Assumes nothing.
use Rattle.std.proofs.Common.{refl}
use Rattle.span.specs.Ends.{spanned, spanned_by, whole}
use Rattle.span.specs.Examples.{Examples}

pub examples : Examples
unfolding spanned spanned_by whole
examples = record { product = refl; hole = refl; trimmed = refl; divided = refl }
