use Rattle.std.proofs.Common.{◌≡◌, Ok}
use Rattle.scan.specs.Scan.{up_to}
use Rattle.rules.specs.Tables.{entry_right}
use Rattle.checker.specs.Grids.{shown}
use Rattle.checker.proofs.entries.check_entries.Given as goal

abbrev pub invariant-loop-place : goal.invariant-loop-place
invariant-loop-place g l = up_to (entry_right g.D.Domain.ops (shown l.grid)) l.place ≡ Ok tt
