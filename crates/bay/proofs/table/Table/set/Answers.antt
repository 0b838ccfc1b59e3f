use Rattle.std.proofs.Math.Seq.{take-set-lt}
use Rattle.bay.proofs.table.Table.set.Goals as goal

pub returns-then-number-self : goal.returns-then-number-self
returns-then-number-self g c = take-set-lt c.args.self.now.count c.args.self.now.items c.args.number c.args.item c.if-number-self.true
