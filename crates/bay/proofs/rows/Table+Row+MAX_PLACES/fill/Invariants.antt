use Rattle.std.proofs.Common.{◌≡◌, map}
use Rattle.std.specs.List.{range_with_len}
use Rattle.scan.specs.Scan.{chunk}
use Rattle.sheet.specs.Rows.{row_in}
use Rattle.bay.specs.Tables.{held}
use Rattle.bay.proofs.rows.Table+Row+MAX_PLACES.fill.Given as goal

abbrev pub invariant-loop-place : goal.invariant-loop-place
invariant-loop-place l = held l.self ≡ map (λ i. row_in (chunk 12 i l.sheet.rows.bytes.now)) (range_with_len 0 l.place)
