-- The head of a sheet and the layout of its three parts. Assumes nothing.
use Rattle.std.specs.Prelude.{ℕ, ◌+◌, ◌*◌, ◌/◌, ◌%◌, ◌&&◌, List, [], ◌∷◌, length, take, drop, Ok, Result, ◌==◌, nat_le, slice_index}
use Rattle.scan.specs.Scan.{and_then, Check, unless, up_to}
use Rattle.sheet.specs.Bytes.{word_at}
use Rattle.sheet.specs.PartNames.{part_number}
use Rattle.sheet.specs.declared.parts.PartName.{PartName}
use Rattle.sheet.specs.declared.parts.PartName.TheVariants.{Inputs, Rows, Table}
use Rattle.sheet.specs.declared.refusals.Refusal.{Refusal}
use Rattle.sheet.specs.declared.refusals.Refusal.TheVariants.{SheetSize, HeadByte, PartExtent, PartSize}

-- a part as it is seen: the byte of the sheet at which it begins, and its bytes
pub record Region : Type 0 where
  pub at : ℕ
  pub bytes : List ℕ

-- the parts of a sheet, and how many variables, inputs and places it has
pub record Parts : Type 0 where
  pub variables : ℕ
  pub input_count : ℕ
  pub places : ℕ
  pub inputs : Region
  pub rows : Region
  pub table : Region

-- the byte behind a part
abbrev pub end_of : Region → ℕ
end_of p = p.at + length p.bytes

-- a sheet has 28 to 1,048,576 bytes
abbrev pub size_right : List ℕ → Check Refusal
size_right bs = unless (nat_le 28 (length bs) && nat_le (length bs) 1048576) SheetSize

-- the head's four bytes lie between these: version 1, 1 to 16 variables, at most 8 inputs, and 0
abbrev pub head_low : List ℕ
head_low = 1 ∷ 1 ∷ 0 ∷ 0 ∷ []

abbrev pub head_high : List ℕ
head_high = 1 ∷ 16 ∷ 8 ∷ 0 ∷ []

abbrev pub head_byte : List ℕ → ℕ → Check Refusal
head_byte bs i = unless (nat_le (slice_index head_low i) (slice_index bs i) && nat_le (slice_index bs i) (slice_index head_high i)) (HeadByte i)

abbrev pub head_right : List ℕ → Check Refusal
head_right bs = up_to (head_byte bs) 4

-- the pair of each part in the head, from byte 4 on: the offset of the part and its length
abbrev pub offset_of : List ℕ → PartName → ℕ
offset_of bs p = word_at bs (4 + 8 * part_number p)

abbrev pub length_of : List ℕ → PartName → ℕ
length_of bs p = word_at bs (8 + 8 * part_number p)

-- a part: it begins at or behind the end of what precedes it, and ends inside the sheet
abbrev pub part_of : List ℕ → PartName → ℕ → Result Region Refusal
part_of bs i before =
    and_then (unless (nat_le before (offset_of bs i) && nat_le (offset_of bs i + length_of bs i) (length bs)) (PartExtent (part_number i)))
    (λ _. Ok (record { at = offset_of bs i; bytes = take (length_of bs i) (drop (offset_of bs i) bs) }))

-- 9 bytes an input; 12 bytes a row, for 1 to 256 rows
abbrev pub sizes_right : ℕ → Region → Region → Check Refusal
sizes_right inputs i r =
    and_then (unless (length i.bytes == 9 * inputs) (PartSize (part_number Inputs)))
    (λ _. unless (length r.bytes % 12 == 0 && (nat_le 12 (length r.bytes) && nat_le (length r.bytes) 3072)) (PartSize (part_number Rows)))

-- the layout of a sheet, or the first rule of size, head, extents and counts that it breaks
abbrev pub parts_of : List ℕ → Result Parts Refusal
parts_of bs =
    and_then (size_right bs) (λ _.
    and_then (head_right bs) (λ _.
    and_then (part_of bs Inputs 28) (λ inputs.
    and_then (part_of bs Rows (end_of inputs)) (λ rows.
    and_then (part_of bs Table (end_of rows)) (λ table.
    and_then (sizes_right (slice_index bs 2) inputs rows) (λ _.
    Ok (record {
      variables = slice_index bs 1;
      input_count = slice_index bs 2;
      places = length rows.bytes / 12;
      inputs = inputs;
      rows = rows;
      table = table;
    })))))))
