use Rattle.std.proofs.Common.{rules}
use Rattle.number.proofs.Meaning.{relation_reads}
use Rattle.number.proofs.codes.RelationTryFromU8.try_from.Goals as goal

pub returns-in-0 : goal.returns-in-0
returns-in-0 c = relation_reads c.args.code _ (search rules)

pub returns-in-1 : goal.returns-in-1
returns-in-1 c = relation_reads c.args.code _ (search rules)

pub returns-in-2 : goal.returns-in-2
returns-in-2 c = relation_reads c.args.code _ (search rules)

pub returns-in-3 : goal.returns-in-3
returns-in-3 c = relation_reads c.args.code _ (search rules)

pub returns-in-4 : goal.returns-in-4
returns-in-4 c = relation_reads c.args.code _ (search rules)

pub returns-in-5 : goal.returns-in-5
returns-in-5 c = relation_reads c.args.code _ (search rules)
