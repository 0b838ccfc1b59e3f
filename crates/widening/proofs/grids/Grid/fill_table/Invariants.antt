use Rattle.std.proofs.Common.{◌≡◌, ◌+◌, ◌*◌}
use Rattle.scan.specs.Scan.{chunk}
use Rattle.widening.specs.Writes.{entry_with}
use Rattle.widening.proofs.Chunked.{Midway}
use Rattle.widening.proofs.grids.Grid.fill_table.Given as goal

abbrev pub invariant-loop-place : goal.invariant-loop-place
invariant-loop-place g l =
    let q = g.B.Domain.ops in
    let size = 1 + l.self.sheet.variables * l.self.width in
    (goal.iterator-loop-place g).can_next l.place-iterator
    × (goal.iterator-loop-place g).is_finite l.place-iterator
    × (l.place-iterator.iter.size ≡ size)
    × Midway (λ place. entry_with q l.self.width l.self.sheet.variables (chunk size place l.self.sheet.table.bytes.now)) size (1 + l.self.sheet.variables * (l.self.width + q.width)) l.self.sheet.places l.self.sheet.table.bytes.now l.initial.out l.place-iterator.count l.place-iterator.iter.rest.now l.out
