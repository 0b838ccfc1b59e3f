use Rattle.std.proofs.Common.{◌≡◌, ◌*◌, take, vec_items, vec_len}
use Rattle.writing.specs.Laid.{joined}
use Rattle.writing.proofs.sheets.part_of.Given as goal

abbrev pub invariant-loop-record : goal.invariant-loop-record
invariant-loop-record g l = (vec_items l.part ≡ joined g.R.Record.bytes (take l.record-index l.records)) × (vec_len l.part ≡ l.record-index * g.row.N)
