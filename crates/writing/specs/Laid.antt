-- A routine and its table laid out as the parts of a sheet. Assumes nothing.
use Rattle.std.specs.Prelude.{ℕ, ◌+◌, ◌≤◌, List, [], ◌∷◌, ◌++◌, length}
use Rattle.machine.specs.declared.Input.{Input}
use Rattle.machine.specs.declared.Row.{Row}
use Rattle.sheet.specs.Format.{row_bytes, input_bytes, Names, Proper}
use Rattle.sheet.specs.Parts.{Parts}

-- the bytes of some records, one after another
abbrev pub joined : {A : Type 0} → (A → List ℕ) → List A → List ℕ
joined bytes [] = []
joined bytes (x ∷ xs) = bytes x ++ joined bytes xs

-- every one of a list
abbrev pub All : {A : Type 0} → (A → Type 0) → List A → Type 0
All P [] = Unit {0}
All P (x ∷ xs) = P x × All P xs

-- the parts right behind one another, the first right behind the head
abbrev pub laid_out : ℕ → List Input → List Row → List ℕ → Parts
laid_out variables inputs rows table = record {
  variables = variables;
  input_count = length inputs;
  places = length rows;
  inputs = record { at = 28; bytes = joined input_bytes inputs };
  rows = record { at = 28 + length (joined input_bytes inputs); bytes = joined row_bytes rows };
  table = record { at = 28 + length (joined input_bytes inputs) + length (joined row_bytes rows); bytes = table };
}

-- a routine that a sheet can hold: the sets of its inputs are not empty, and its rows name only what there is
pub record Sound (variables : ℕ) (inputs : List Input) (rows : List Row) : Type 0 where
  pub some_variable : 1 ≤ variables
  pub some_place : 1 ≤ length rows
  pub proper : All Proper inputs
  pub named : All (Names variables (length inputs) (length rows)) rows
