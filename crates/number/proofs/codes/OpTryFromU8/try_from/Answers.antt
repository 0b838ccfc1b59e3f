use Rattle.std.proofs.Common.{rules}
use Rattle.number.proofs.Meaning.{op_reads}
use Rattle.number.proofs.codes.OpTryFromU8.try_from.Goals as goal

pub returns-in-0 : goal.returns-in-0
returns-in-0 c = op_reads c.args.code _ (search rules)

pub returns-in-1 : goal.returns-in-1
returns-in-1 c = op_reads c.args.code _ (search rules)

pub returns-in-2 : goal.returns-in-2
returns-in-2 c = op_reads c.args.code _ (search rules)

pub returns-in-3 : goal.returns-in-3
returns-in-3 c = op_reads c.args.code _ (search rules)

pub returns-in-4 : goal.returns-in-4
returns-in-4 c = op_reads c.args.code _ (search rules)

pub returns-in-5 : goal.returns-in-5
returns-in-5 c = op_reads c.args.code _ (search rules)

pub returns-in-6 : goal.returns-in-6
returns-in-6 c = op_reads c.args.code _ (search rules)

pub returns-in-7 : goal.returns-in-7
returns-in-7 c = op_reads c.args.code _ (search rules)
