use Rattle.checker.specs.Grids.{routine_in, claims_in}
use Rattle.checker.proofs.Forks.{fork-goes}
use Rattle.checker.proofs.grids.Operands.check_fork.Goals as goal

pub returns : goal.returns
returns g c =
    let o = c.args.self.now in
    let e = o.entry in
    fork-goes g.D.Domain.ops (routine_in e.grid.now) (claims_in g.D.Domain.ops e.grid.now) e.place
    c.args.number c.args.relation o.left o.right c.args.next c.check.result c.in-Some.change
    c.in-Some.ensures c.check.ensures
