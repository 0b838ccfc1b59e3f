-- A sheet of one domain made into a sheet of the pair of it and a second domain. Assumes nothing.
-- Each cell of the table is followed by the blank bytes of the second domain, which read as "anything"; the parts
-- then stand one right after another, with nothing between them and nothing after the table.
use Rattle.std.specs.Prelude.{ℕ, zero, suc, ◌+◌, ◌/◌, ◌%◌, List, [], ◌∷◌, ◌++◌, length, Ok, Err, Result}
use Rattle.sheet.specs.Parts.{Region, Parts}
use Rattle.sheet.specs.Sheets.{sheet_of}
use Rattle.domain.specs.Model.{Ops}
use Rattle.domain.specs.Laws.{blanks}
use Rattle.rules.specs.Tables.{Table, flag_at, cell_at, table_of}

-- the pieces f 0 up to f (n - 1), one after another
abbrev pub pieces : (ℕ → List ℕ) → ℕ → List ℕ
pieces f zero = []
pieces f (suc n) = pieces f n ++ f n

-- a number in four bytes, the lowest first
abbrev pub word_bytes : ℕ → List ℕ
word_bytes n = (n % 256) ∷ (n / 256 % 256) ∷ (n / 65536 % 256) ∷ (n / 16777216 % 256) ∷ []

-- what the head says of a part: its offset and its length
abbrev pub pair_bytes : Region → List ℕ
pair_bytes r = word_bytes r.at ++ word_bytes (length r.bytes)

-- the 28 bytes of a head: version 1, the two counts, 0, and the three parts
abbrev pub head_bytes : Parts → List ℕ
head_bytes s = 1 ∷ s.variables ∷ s.input_count ∷ 0 ∷ (pair_bytes s.inputs ++ (pair_bytes s.rows ++ pair_bytes s.table))

-- a sheet whose parts stand one right after another
abbrev pub sheet_bytes : Parts → List ℕ
sheet_bytes s = head_bytes s ++ (s.inputs.bytes ++ (s.rows.bytes ++ s.table.bytes))

-- the parts of a sheet moved up to the head and to one another, with another table
abbrev pub moved_up : Parts → List ℕ → Parts
moved_up s table = record {
  variables = s.variables;
  input_count = s.input_count;
  places = s.places;
  inputs = record { at = 28; bytes = s.inputs.bytes };
  rows = record { at = 28 + length s.inputs.bytes; bytes = s.rows.bytes };
  table = record { at = 28 + length s.inputs.bytes + length s.rows.bytes; bytes = table };
}

module _ {B : Type 0} (q : Ops B) where
  -- a cell, and the blank cell of the second domain
  abbrev pub widened_cell : Table → ℕ → ℕ → List ℕ
  widened_cell t place x = cell_at t place x ++ blanks q

  -- an entry, present or absent: its flag, and each cell so widened
  abbrev pub widened_entry : Table → ℕ → List ℕ
  widened_entry t place = flag_at t place ∷ pieces (widened_cell t place) t.variables

  abbrev pub widened_table : Table → List ℕ
  widened_table t = pieces (widened_entry t) t.places

module _ {A B : Type 0} (p : Ops A) (q : Ops B) where
  abbrev pub widened_parts : Parts → Parts
  widened_parts s = moved_up s (widened_table q (table_of p s))

  -- the same of what a sheet was read as; nothing where it is none
  abbrev pub widened_in : {E : Type 0} → Result Parts E → List ℕ
  widened_in (Ok s) = sheet_bytes (widened_parts s)
  widened_in (Err e) = []

  -- the widened sheet
  abbrev pub widened : List ℕ → List ℕ
  widened bs = widened_in (sheet_of bs)
