use Rattle.std.proofs.Common.{◌≡◌, Ok}
use Rattle.scan.specs.Scan.{up_to, passed}
use Rattle.sheet.specs.Rows.{row_at}
use Rattle.sheet.specs.Views.{laid}
use Rattle.sheet.proofs.views.Layout.check_rows.Given as goal

-- the records so far are right
abbrev pub invariant-loop-place : goal.invariant-loop-place
invariant-loop-place l = up_to (λ i. passed (row_at (laid l.self) i)) l.place ≡ Ok tt
