-- What a draft comes to, and what a line does to it. Assumes nothing.
use Rattle.std.specs.Prelude.{◌≡◌, ℕ, ◌+◌, ◌≤◌, ◌⊎◌, true, false, List, [], ◌∷◌, ◌++◌, map, length, slice_index_or, All, ◌≤ℤ◌, vec_items}
use Rattle.lines.specs.Known.{Known}
use Rattle.lines.specs.declared.mistakes.Reason.{Reason}
use Rattle.lines.specs.declared.mistakes.Reason.TheVariants.{PlaceMissing}
use Rattle.sheet.specs.Format.{WellFormed}
use Rattle.sheet.specs.Parts.{Parts}
use Rattle.writing.specs.Laid.{laid_out}
use Rattle.text.specs.declared.drafts.Draft.{Draft}
use Rattle.text.specs.Counted.{begun, IsLine}

-- what the draft holds, laid out as the parts of a sheet
abbrev pub drafted : Draft → Parts
drafted d = laid_out d.variables (vec_items d.inputs) (map (λ r. r.row) (vec_items d.rows)) (vec_items d.table)

-- the bytes are a well-formed sheet
abbrev pub IsSheet : List ℕ → Type 0
IsSheet bs = (s : Parts) × WellFormed bs s

-- no variable, no input, no row and no byte of a table, laid out
abbrev pub nothing : Parts
nothing = laid_out 0 [] [] []

-- neither the variables nor a line nor an entry is counted
abbrev pub NoneCounted : Draft → Type 0
NoneCounted d = (begun d.stage ≡ false) × (d.lines ≡ 0) × (d.entries ≡ 0)

-- the second list is the first with one more behind it, of which P holds
abbrev pub OneMore : {A : Type 0} → (A → Type 0) → List A → List A → Type 0
OneMore {A} P old new = (x : A) × P x × (new ≡ old ++ x ∷ [])

-- one input more, whose set is not empty
abbrev pub OneInput : Draft → Draft → Type 0
OneInput old new = OneMore (λ i. i.lo ≤ℤ i.hi) (vec_items old.inputs) (vec_items new.inputs)

-- one row more, which names only variables and inputs that there are
abbrev pub OneRow : Draft → Draft → Type 0
OneRow old new = OneMore (λ r. Known old.variables (length (vec_items old.inputs)) r.row) (vec_items old.rows) (vec_items new.rows)

abbrev pub SameInputs : Draft → Draft → Type 0
SameInputs old new = vec_items new.inputs ≡ vec_items old.inputs

abbrev pub SameRows : Draft → Draft → Type 0
SameRows old new = vec_items new.rows ≡ vec_items old.rows

-- once the variables are counted, they stay
abbrev pub KeepsVariables : Draft → Draft → Type 0
KeepsVariables old new = begun old.stage ≡ true → (begun new.stage ≡ true) × (new.variables ≡ old.variables)

abbrev pub SameEntries : Draft → Draft → Type 0
SameEntries old new = new.entries ≡ old.entries

-- where the variables are not counted before, there are as many as before, or they are counted now, and are 1 to 16
abbrev pub CountsVariables : Draft → Draft → Type 0
CountsVariables old new = begun old.stage ≡ false
    → (new.variables ≡ old.variables) ⊎ ((begun new.stage ≡ true) × (1 ≤ new.variables) × (new.variables ≤ 16))

-- at most one input, one row or one entry more, behind those of before; none before the variables are counted
pub data Grows (old new : Draft) : Type 0 where
  nothing_more : SameInputs old new → SameRows old new → SameEntries old new → Grows old new
  input_more : begun old.stage ≡ true → OneInput old new → SameRows old new → SameEntries old new → Grows old new
  row_more : begun old.stage ≡ true → SameInputs old new → OneRow old new → SameEntries old new → Grows old new
  entry_more : begun old.stage ≡ true → SameInputs old new → SameRows old new → new.entries ≡ old.entries + 1 → Grows old new

-- as many variables, the same inputs, the same rows and as many entries
abbrev pub AddsNothing : Draft → Draft → Type 0
AddsNothing old new = (new.variables ≡ old.variables) × SameInputs old new × SameRows old new × SameEntries old new

-- each row is from a line that is counted
abbrev pub IsNumbered : Draft → Type 0
IsNumbered d = All (λ r. IsLine d.lines r.line) (vec_items d.rows)

-- the line that a mistake is told with: that of the row that goes to no place, else the last one
abbrev pub IsToldLine : Draft → Reason → ℕ → Type 0
IsToldLine d reason n = ((k count : ℕ) → reason ≡ PlaceMissing k count → n ≡ slice_index_or (map (λ r. r.line) (vec_items d.rows)) k d.lines)
    × (((k count : ℕ) → reason ≡ PlaceMissing k count → ⊥) → n ≡ d.lines)
