use Rattle.std.proofs.Common.{◌≡◌, Ok}
use Rattle.scan.specs.Scan.{up_to}
use Rattle.checker.specs.Scans.{start_cell}
use Rattle.checker.proofs.starts.check_zeros.Given as goal

abbrev pub invariant-loop-variable : goal.invariant-loop-variable
invariant-loop-variable g l = up_to (start_cell g.D.Domain.ops l.grid) l.variable ≡ Ok tt
