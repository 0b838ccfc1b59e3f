use Rattle.std.proofs.Common.{None, arith}
use Rattle.std.proofs.lemmas.Str.Pattern.{strip_suffix_char}
use Rattle.lines.proofs.words.numbered.Goals as goal

pub returns-in_err-strip_suffix : goal.returns-in_err-strip_suffix
returns-in_err-strip_suffix c = rw c.from_residual.ensures (λ n. strip_suffix_char 58 _ None c.in_err-strip_suffix.ensures.cases (omega arith) _ n.0)
