-- The rows and inputs of a routine are what the bytes of its sheet say. Assumes nothing.
use Rattle.std.proofs.Common.{◌≡◌, ℕ, ◌<◌, arith}
use Rattle.std.proofs.lemmas.List.FromFn.{get_or-map-range_with_len}
use Rattle.scan.specs.Scan.{chunk}
use Rattle.machine.specs.Runs.{row_on}
use Rattle.machine.specs.declared.Row.TheVariants.{End}
use Rattle.sheet.specs.Inputs.{input_in}
use Rattle.sheet.specs.Parts.{Parts}
use Rattle.sheet.specs.Rows.{row_in}
use Rattle.rules.specs.Tables.{routine_of}
use Rattle.rules.specs.Ways.{input_on}

-- the row at a place of the routine is what its bytes say
pub row_here : (s : Parts) (i : ℕ) → i < s.places → row_on (routine_of s).rows i ≡ row_in (chunk 12 i s.rows.bytes)
row_here s i h = get_or-map-range_with_len (λ j. row_in (chunk 12 j s.rows.bytes)) 0 s.places i i End h (omega arith)

-- the input with a number
pub input_here : (s : Parts) (i : ℕ) → i < s.input_count → input_on (routine_of s).inputs i ≡ input_in (chunk 9 i s.inputs.bytes)
input_here s i h = get_or-map-range_with_len (λ j. input_in (chunk 9 j s.inputs.bytes)) 0 s.input_count i i _ h (omega arith)
