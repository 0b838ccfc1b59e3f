use Rattle.std.proofs.Common.{rules}
use Rattle.machine.proofs.KindRead.{kind_reads}
use Rattle.machine.proofs.InputKindTryFromU8.try_from.Goals as goal

pub returns-in-0 : goal.returns-in-0
returns-in-0 c = kind_reads c.args.code _ (search rules)

pub returns-in-1 : goal.returns-in-1
returns-in-1 c = kind_reads c.args.code _ (search rules)
