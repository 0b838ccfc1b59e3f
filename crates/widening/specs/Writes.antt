-- What is written, piece by piece. Assumes nothing.
use Rattle.std.specs.Prelude.{ℕ, ◌+◌, ◌*◌, List, [], ◌∷◌, ◌++◌, length, drop, slice_index}
use Rattle.scan.specs.Scan.{chunk}
use Rattle.sheet.specs.Parts.{Parts}
use Rattle.domain.specs.Model.{Ops}
use Rattle.domain.specs.Laws.{blanks}
use Rattle.widening.specs.Widened.{pieces, word_bytes}

-- cells of a width, each with the blank cell of a second domain after it
abbrev pub cells_with : {B : Type 0} → Ops B → ℕ → List ℕ → ℕ → List ℕ
cells_with q width cells = pieces (λ x. chunk width x cells ++ blanks q)

-- the bytes of an entry, so widened: its flag, and its cells
abbrev pub entry_with : {B : Type 0} → Ops B → ℕ → ℕ → List ℕ → List ℕ
entry_with q width variables entry = slice_index entry 0 ∷ cells_with q width (drop 1 entry) variables

-- the bytes of a table, so widened
abbrev pub table_with : {B : Type 0} → Ops B → ℕ → ℕ → List ℕ → ℕ → List ℕ
table_with q width variables table = pieces (λ place. entry_with q width variables (chunk (1 + variables * width) place table))

-- a head by its two counts and the lengths of the three parts, which stand one right after another
abbrev pub head_with : ℕ → ℕ → ℕ → ℕ → ℕ → List ℕ
head_with variables input_count inputs rows table =
    (1 ∷ variables ∷ input_count ∷ 0 ∷ [])
    ++ ((word_bytes 28 ++ word_bytes inputs)
    ++ ((word_bytes (28 + inputs) ++ word_bytes rows)
    ++ (word_bytes (28 + inputs + rows) ++ word_bytes table)))

-- a whole sheet whose parts stand one right after another, its table so widened
abbrev pub sheet_with : {B : Type 0} → Ops B → ℕ → Parts → List ℕ
sheet_with q width s =
    head_with s.variables s.input_count (length s.inputs.bytes) (length s.rows.bytes) (s.places * (1 + s.variables * (width + q.width)))
    ++ (s.inputs.bytes ++ (s.rows.bytes ++ table_with q width s.variables s.table.bytes s.places))
