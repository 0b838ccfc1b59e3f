use Rattle.std.proofs.Common.{◌≡◌, Ok}
use Rattle.scan.specs.Scan.{up_to}
use Rattle.checker.specs.Grids.{shown}
use Rattle.checker.specs.Scans.{cell_right}
use Rattle.checker.proofs.grids.Entry.check_cells.Given as goal

abbrev pub invariant-loop-variable : goal.invariant-loop-variable
invariant-loop-variable g l = up_to (cell_right g.D.Domain.ops (shown l.self.grid.now) l.self.place) l.variable ≡ Ok tt
