use Rattle.std.proofs.Common.{◌≡◌, Ok}
use Rattle.scan.specs.Scan.{up_to}
use Rattle.checker.specs.Scans.{place_checked}
use Rattle.checker.proofs.places.check_places.Given as goal

abbrev pub invariant-loop-place : goal.invariant-loop-place
invariant-loop-place g l = up_to (place_checked g.D.Domain.ops l.grid) l.place ≡ Ok tt
