use Rattle.rules.proofs.Sheets.{safe-by-laws}
use Rattle.rules.proofs.taken_is_safe.Goals as goal

pub returns : goal.returns
returns g c = safe-by-laws g.met.D.Domain.order g.met.D.Domain.reading g.met.D.Domain.working g.met.D.Domain.narrowing
