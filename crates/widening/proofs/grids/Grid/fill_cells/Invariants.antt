use Rattle.std.proofs.Common.{◌≡◌, ◌+◌, ◌++◌}
use Rattle.scan.specs.Scan.{chunk}
use Rattle.domain.specs.Laws.{blanks}
use Rattle.widening.proofs.Chunked.{Midway}
use Rattle.widening.proofs.grids.Grid.fill_cells.Given as goal

abbrev pub invariant-loop-x : goal.invariant-loop-x
invariant-loop-x g l =
    let q = g.B.Domain.ops in
    (goal.iterator-loop-x g).can_next l.x-iterator
    × (goal.iterator-loop-x g).is_finite l.x-iterator
    × (l.x-iterator.iter.size ≡ l.self.width)
    × Midway (λ x. chunk l.self.width x l.cells ++ blanks q) l.self.width (l.self.width + q.width) l.self.sheet.variables l.cells l.initial.out l.x-iterator.count l.x-iterator.iter.rest.now l.out
