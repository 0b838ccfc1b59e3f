use Rattle.layers.specs.Piles.{dom_of}
use Rattle.layers.proofs.PileLaws.{pile-lawful}
use Rattle.widening.proofs.Paired.{pairing}
use Rattle.widening.proofs.piles_pair.Goals as goal

pub returns : goal.returns
returns g c a b =
    let doms = g.F.Domains.doms in
    let lawful = pile-lawful doms g.F.Domains.lawful in
    pairing (dom_of doms a) (dom_of doms b) (lawful a) (lawful b)
