-- An input of a sheet: 9 bytes, its kind (0 reading, 1 setting), lo and hi. Assumes nothing.
use Rattle.std.specs.Prelude.{ℕ, cond, ◌&&◌, List, Ok, Result, ◌==◌, int_le, nat_lt, slice_index}
use Rattle.scan.specs.Scan.{and_then, Check, unless, up_to, passed, chunk}
use Rattle.machine.specs.declared.Input.{Input}
use Rattle.machine.specs.declared.InputKind.TheVariants.{Reading, Setting}
use Rattle.sheet.specs.Bytes.{integer_at}
use Rattle.sheet.specs.Parts.{Parts}
use Rattle.sheet.specs.declared.refusals.Refusal.{Refusal}
use Rattle.sheet.specs.declared.refusals.Refusal.TheVariants.{InputRecord}

-- what the 9 bytes say
abbrev pub input_in : List ℕ → Input
input_in bs = record { kind = cond (slice_index bs 0 == 0) Reading Setting; lo = integer_at bs 1; hi = integer_at bs 5 }

-- input i, whose kind is known and whose set is not empty
abbrev pub input_of : ℕ → List ℕ → Result Input Refusal
input_of i bs = and_then (unless (nat_lt (slice_index bs 0) 2 && int_le (integer_at bs 1) (integer_at bs 5)) (InputRecord i)) (λ _. Ok (input_in bs))

-- input i of a sheet
abbrev pub input_at : Parts → ℕ → Result Input Refusal
input_at p i = input_of i (chunk 9 i p.inputs.bytes)

-- every input of a sheet
abbrev pub inputs_right : Parts → Check Refusal
inputs_right p = up_to (λ i. passed (input_at p i)) p.input_count
