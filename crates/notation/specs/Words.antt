-- Why no cell is added, in words, as the bytes of a text. Assumes nothing.
use Rattle.std.specs.Prelude.{ℕ, List, codes}
use Rattle.notation.specs.declared.cells.CellError.{CellError}
use Rattle.notation.specs.declared.cells.CellError.TheVariants.{NoValue, Memory}

abbrev pub cell_error_words : CellError → List ℕ
cell_error_words NoValue = codes "no value of the domain, and not the bytes of a cell"
cell_error_words Memory = codes "there is not enough memory"
