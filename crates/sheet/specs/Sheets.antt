-- A whole sheet: its layout, its inputs and its rows. Assumes nothing.
use Rattle.std.specs.Prelude.{◌≡◌, ℕ, ◌+◌, ◌*◌, ◌≤◌, List, length, Ok, Result}
use Rattle.scan.specs.Scan.{and_then}
use Rattle.sheet.specs.Inputs.{inputs_right}
use Rattle.sheet.specs.Parts.{Parts, parts_of}
use Rattle.sheet.specs.Rows.{rows_right}
use Rattle.sheet.specs.declared.refusals.Refusal.{Refusal}

-- the parts are as long as their records, and the counts are within their limits
pub record Fits (s : Parts) : Type 0 where
  pub some_variable : 1 ≤ s.variables
  pub variables : s.variables ≤ 16
  pub input_count : s.input_count ≤ 8
  pub some_place : 1 ≤ s.places
  pub places : s.places ≤ 256
  pub inputs : length s.inputs.bytes ≡ s.input_count * 9
  pub rows : length s.rows.bytes ≡ s.places * 12

-- a sheet as it is read: its parts, or the first rule that it breaks
abbrev pub sheet_of : List ℕ → Result Parts Refusal
sheet_of bs = and_then (parts_of bs) (λ s. and_then (inputs_right s) (λ _. and_then (rows_right s) (λ _. Ok s)))

-- the table has P entries, each a flag and V cells of w bytes, 1 to 64
pub record Width (s : Parts) (w : ℕ) : Type 0 where
  pub least : 1 ≤ w
  pub most : w ≤ 64
  pub whole : length s.table.bytes ≡ s.places * (1 + s.variables * w)

-- it has none such, whatever the width
abbrev pub NoWidth : Parts → Type 0
NoWidth s = (w : ℕ) → Width s w → ⊥
