use Rattle.bay.proofs.Standing.{standing}
use Rattle.bay.proofs.stands.Goals as goal

pub returns : goal.returns
returns g c = standing g.F.Domains.doms g.F.Domains.lawful
