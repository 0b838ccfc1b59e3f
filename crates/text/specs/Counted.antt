-- Whether the variables are counted, and the numbers of lines. Assumes nothing.
use Rattle.std.specs.Prelude.{ℕ, ◌≤◌, Bool, true, false}
use Rattle.text.specs.declared.drafts.Stage.{Stage}
use Rattle.text.specs.declared.drafts.Stage.TheVariants.{Start, Inputs, Rows, Table}

-- whether the variables are counted
abbrev pub begun : Stage → Bool
begun Start = false
begun Inputs = true
begun Rows = true
begun (Table cells) = true

-- the number of a line, where so many are counted
abbrev pub IsLine : ℕ → ℕ → Type 0
IsLine count n = (1 ≤ n) × (n ≤ count)
