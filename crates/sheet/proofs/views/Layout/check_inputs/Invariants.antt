use Rattle.std.proofs.Common.{◌≡◌, Ok}
use Rattle.scan.specs.Scan.{up_to, passed}
use Rattle.sheet.specs.Inputs.{input_at}
use Rattle.sheet.specs.Views.{laid}
use Rattle.sheet.proofs.views.Layout.check_inputs.Given as goal

-- the records so far are right
abbrev pub invariant-loop-number : goal.invariant-loop-number
invariant-loop-number l = up_to (λ i. passed (input_at (laid l.self) i)) l.number ≡ Ok tt
