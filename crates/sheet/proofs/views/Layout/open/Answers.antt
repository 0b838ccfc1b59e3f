use Rattle.std.proofs.Common.{rules}
use Rattle.sheet.proofs.Laying.{laid_of}
use Rattle.sheet.proofs.views.Layout.open.Goals as goal

pub invariant_of-result : goal.invariant_of-result
invariant_of-result c = record { fits = (laid_of c.args.bytes.now _ (search rules)).counts }
