use Rattle.widening.proofs.Paired.{pairs}
use Rattle.widening.proofs.Stays.{stays-bytes}
use Rattle.widening.proofs.pairing_keeps.Goals as goal

pub returns : goal.returns
returns g c = record {
  taken = pairs g.A.Domain.ops g.B.Domain.ops g.met.A.Domain.reading g.met.B.Domain.reading g.met.B.Domain.order.anything_covers;
  bytes = stays-bytes g.A.Domain.ops g.B.Domain.ops g.met.B.Domain.reading;
}
