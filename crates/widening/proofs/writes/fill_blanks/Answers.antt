use Rattle.std.proofs.Common.{arith}
use Rattle.std.proofs.lemmas.List.FromFn.{fill_by_all}
use Rattle.widening.proofs.writes.fill_blanks.Goals as goal

pub returns : goal.returns
returns g c = fill_by_all g.B.Domain.ops.blank c.loop-i.out g.B.Domain.ops.width 0 (omega arith) (λ k h. c.loop-i.invariant k (omega arith))
