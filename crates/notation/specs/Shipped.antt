-- The domains that ship: the cells that hold their values, and what is added to a table for a word.
-- Assumes nothing.
use Rattle.std.specs.Prelude.{◌≡◌, ℕ, ◌+◌, Bool, true, false, ◌⊎◌, List, ◌++◌, length, take, Ok, Err, Result}
use Rattle.span.specs.declared.Span.{Span}
use Rattle.layers.specs.declared.pair.Pair.{Pair}
use Rattle.notation.specs.Cells.{span_cell, stride_cell, marked_cell, pair_cell}
use Rattle.hex.specs.declared.error.FromHexError.{FromHexError}
use Rattle.hex.specs.declared.error.FromHexError.TheVariants.{InvalidHexCharacter, OddLength, InvalidStringLength, OutOfMemory}
use Rattle.catalog.specs.Domains.{width_of}
use Rattle.notation.specs.declared.cells.CellError.{CellError}
use Rattle.notation.specs.declared.cells.CellError.TheVariants.{NoValue, Memory}
use Rattle.notation.specs.declared.cells.Cells.{Cells}
use Rattle.notation.specs.declared.cells.Cells.TheVariants.{Values, Bytes}
use Rattle.catalog.specs.declared.names.DomainName.{DomainName}
use Rattle.catalog.specs.declared.names.DomainName.TheVariants.{Spans, Strides, NonzeroSpans, NonzeroStrides, SpansStrides, StridesSpans, NonzeroSpansStrides, NonzeroPair, SpansNonzeroStrides, Spans8, Spans9}

-- for a word that is a value the cell of a value is added behind what there was; else nothing is
abbrev pub Added : {V : Type 0} → (V → List ℕ) → List ℕ → List ℕ → Bool → Type 0
Added {V} cell before after true = (v : V) × (after ≡ before ++ cell v)
Added cell before after false = after ≡ before

-- the cells of four spans, paired twice
abbrev pub four_cells : Pair (Pair Span Span) (Pair Span Span) → List ℕ
four_cells = pair_cell (pair_cell span_cell span_cell) (pair_cell span_cell span_cell)

-- the type of the values of a domain, and the cells that hold them
pub record Writing : Type 1 where
  pub value : Type 0
  pub cell : value → List ℕ

abbrev pub as_writing : (V : Type 0) → (V → List ℕ) → Writing
as_writing V cell = record { value = V; cell = cell }

-- those of the domain with a name
abbrev pub writing_of : DomainName → Writing
writing_of Spans = as_writing _ span_cell
writing_of Strides = as_writing _ stride_cell
writing_of NonzeroSpans = as_writing _ (marked_cell span_cell)
writing_of NonzeroStrides = as_writing _ (marked_cell stride_cell)
writing_of SpansStrides = as_writing _ (pair_cell span_cell stride_cell)
writing_of StridesSpans = as_writing _ (pair_cell stride_cell span_cell)
writing_of NonzeroSpansStrides = as_writing _ (pair_cell (marked_cell span_cell) stride_cell)
writing_of NonzeroPair = as_writing _ (marked_cell (pair_cell span_cell stride_cell))
writing_of SpansNonzeroStrides = as_writing _ (pair_cell span_cell (marked_cell stride_cell))
writing_of Spans8 = as_writing _ (pair_cell four_cells four_cells)
writing_of Spans9 = as_writing _ (pair_cell (pair_cell four_cells four_cells) span_cell)

-- the cell of a value of the domain with a name is added
abbrev pub AddedIn : DomainName → List ℕ → List ℕ → Bool → Type 0
AddedIn d = Added (writing_of d).cell

-- for a word that is so many bytes in hexadecimal these are added; what there was is kept in any case
abbrev pub BytesAdded : ℕ → List ℕ → List ℕ → Bool → Type 0
BytesAdded count before after took =
    (take (length before) after ≡ before) × (took ≡ true → length after ≡ length before + count)

-- digits that are no bytes are no cell; memory may run out while they are read
abbrev pub cell_error : FromHexError → CellError
cell_error (InvalidHexCharacter c index) = NoValue
cell_error OddLength = NoValue
cell_error InvalidStringLength = NoValue
cell_error OutOfMemory = Memory

-- how many bytes the cells of a table have
abbrev pub cells_width : Cells → ℕ
cells_width (Values d) = width_of d
cells_width (Bytes n) = n

-- what is added to a table for a word: the cell of a value, or its bytes
abbrev pub CellAdded : Cells → List ℕ → List ℕ → Bool → Type 0
CellAdded (Values d) before after took = AddedIn d before after took ⊎ BytesAdded (width_of d) before after took
CellAdded (Bytes n) before after took = BytesAdded n before after took

-- what was added, as an answer tells it: a cell, none, or anything where memory ran out
abbrev pub Told : (Bool → Type 0) → Result (Unit {0}) CellError → Type 0
Told added (Ok u) = added true
Told added (Err NoValue) = added false
Told added (Err Memory) = Unit {0}
