use Rattle.layers.proofs.PileLaws.{pile-lawful}
use Rattle.layers.proofs.pile.piles_lawful.Goals as goal

pub returns : goal.returns
returns g c = pile-lawful g.F.Domains.doms g.F.Domains.lawful
