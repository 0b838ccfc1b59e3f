use Rattle.std.proofs.Common.{rules}
use Rattle.bay.specs.Tables.{held}
use Rattle.bay.proofs.Holding.{takes-held}
use Rattle.bay.proofs.bays.Bay.taken_by.Goals as goal

pub returns-in-Reading : goal.returns-in-Reading
returns-in-Reading c =
    let t = takes-held (held c.args.self.now.inputs) c.in-Take.number c.in-Some.held c.args.reading in
    search (rules, t)

pub returns-in-Reading-2 : goal.returns-in-Reading-2
returns-in-Reading-2 c =
    let t = takes-held (held c.args.self.now.inputs) c.in-Take.number c.in-Some.held c.args.reading in
    search (rules, t)
