-- The table of a sheet in its bytes, and the verdict on a sheet, over any domain. Assumes nothing.
use Rattle.std.specs.Prelude.{ℕ, ◌+◌, ◌*◌, cond, not, List, map, length, drop, is_some, Ok, Result, ◌==◌, nat_lt, slice_index}
use Rattle.std.specs.List.{range_with_len}
use Rattle.std.specs.Option.{unwrap_or}
use Rattle.scan.specs.Scan.{and_then, Check, unless, up_to, chunk}
use Rattle.sheet.specs.Inputs.{input_in}
use Rattle.sheet.specs.Parts.{Parts}
use Rattle.sheet.specs.Rows.{row_in}
use Rattle.sheet.specs.Sheets.{sheet_of}
use Rattle.sheet.specs.declared.refusals.Refusal.TheVariants.{NoWidth, TableSize, EntryFlag, CellUnreadable}
use Rattle.domain.specs.Model.{Ops}
use Rattle.rules.specs.Checks.{Routine, start_right, places_right}
use Rattle.rules.specs.Claims.{Claims}
use Rattle.rules.specs.Faults.{Fault, fixed, faulty}

-- a table in its bytes: the width of a cell, how many variables and places there are, and the bytes
pub record Table : Type 0 where
  pub width : ℕ
  pub variables : ℕ
  pub places : ℕ
  pub bytes : List ℕ

-- an entry: a flag and a cell for each variable
abbrev pub entry_size : Table → ℕ
entry_size t = 1 + t.variables * t.width

abbrev pub entry_at : Table → ℕ → List ℕ
entry_at t place = chunk (entry_size t) place t.bytes

abbrev pub flag_at : Table → ℕ → ℕ
flag_at t place = slice_index (entry_at t place) 0

abbrev pub cell_at : Table → ℕ → ℕ → List ℕ
cell_at t place x = chunk t.width x (drop 1 (entry_at t place))

-- the routine of a sheet
abbrev pub routine_of : Parts → Routine
routine_of s = record {
  variables = s.variables;
  inputs = map (λ i. input_in (chunk 9 i s.inputs.bytes)) (range_with_len 0 s.input_count);
  rows = map (λ i. row_in (chunk 12 i s.rows.bytes)) (range_with_len 0 s.places);
}

module _ {V : Type 0} (o : Ops V) where
  -- the table of a sheet
  abbrev pub table_of : Parts → Table
  table_of s = record { width = o.width; variables = s.variables; places = s.places; bytes = s.table.bytes }

  -- what a table claims: an entry is present where its flag is 1; a cell that holds no value claims nothing
  abbrev pub claims_of : Table → Claims V
  claims_of t = record {
    present = λ place. (flag_at t place == 1);
    cell = λ place x. unwrap_or (o.reads (cell_at t place x)) o.anything;
  }

  -- an entry: its flag is 0 or 1, and each cell of a present one holds a value
  abbrev pub entry_right : Table → ℕ → Check Fault
  entry_right t place =
      and_then (unless (nat_lt (flag_at t place) 2) (fixed (EntryFlag place)))
      (λ _. cond (flag_at t place == 1)
      (up_to (λ x. unless (is_some (o.reads (cell_at t place x))) (fixed (CellUnreadable place x))) t.variables)
      (Ok tt))

  -- the domain has cells, and the table is as long as its entries
  abbrev pub table_fits : Parts → Check Fault
  table_fits s =
      and_then (unless (not (o.width == 0)) (fixed NoWidth))
      (λ _. unless (length s.table.bytes == s.places * (1 + s.variables * o.width)) (fixed TableSize))

  -- every entry can be read
  abbrev pub entries_right : Table → Check Fault
  entries_right t = up_to (entry_right t) t.places

  -- the table of a sheet holds for its routine
  abbrev pub table_right : Parts → Check Fault
  table_right s =
      and_then (table_fits s) (λ _.
      and_then (entries_right (table_of s)) (λ _.
      and_then (start_right o (routine_of s) (claims_of (table_of s))) (λ _.
      places_right o (routine_of s) (claims_of (table_of s)) s.places)))

  -- the verdict on a sheet: taken, with its number of places, or the first rule that it breaks
  abbrev pub verdict_of : List ℕ → Result ℕ Fault
  verdict_of bs = and_then (faulty (sheet_of bs)) (λ s. and_then (table_right s) (λ _. Ok s.places))
