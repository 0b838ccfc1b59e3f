use Rattle.std.proofs.Common.{rules}
use Rattle.checker.specs.Changes.{after}
use Rattle.checker.specs.Grids.{routine_in, claims_in}
use Rattle.checker.proofs.Landed.{lands-uncovered}
use Rattle.checker.proofs.changes.Way.find_fault.Goals as goal

pub returns-in-Some : goal.returns-in-Some
returns-in-Some g c =
    let w = c.args.self.now in
    let claims = claims_in g.D.Domain.ops w.from.grid.now in
    lands-uncovered g.D.Domain.ops (routine_in w.from.grid.now) claims w.from.place w.number w.next
    (after (claims.cell w.from.place) w.change) c.in-Some.variable
    (search rules) c.in-Some.ensures.0 c.in-Some.ensures.1
