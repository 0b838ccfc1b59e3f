use Rattle.std.proofs.Common.{rules}
use Rattle.sheet.proofs.views.Sheet.checked.Goals as goal

pub invariant_of-result : goal.invariant_of-result
invariant_of-result c = record {
  sound = record { fits = c.in_ok-layout.layout.fits; inputs = search rules; rows = search rules };
}
