-- What a sheet that has been read keeps to. Assumes nothing.
use Rattle.std.specs.Prelude.{◌≡◌, ℕ, Ok}
use Rattle.sheet.specs.Inputs.{inputs_right}
use Rattle.sheet.specs.Parts.{Parts}
use Rattle.sheet.specs.Regions.{region}
use Rattle.sheet.specs.Rows.{rows_right}
use Rattle.sheet.specs.Sheets.{Fits}
use Rattle.sheet.specs.declared.parts.Part.{Part}

-- the fields of a view, as plain numbers and lists
abbrev pub laid_out : ℕ → ℕ → ℕ → Part → Part → Part → Parts
laid_out variables input_count places inputs rows table = record {
  variables = variables;
  input_count = input_count;
  places = places;
  inputs = region inputs;
  rows = region rows;
  table = region table;
}

-- its counts are within their limits, and every input and every row is right
pub record Sound (s : Parts) : Type 0 where
  pub fits : Fits s
  pub inputs : inputs_right s ≡ Ok tt
  pub rows : rows_right s ≡ Ok tt
