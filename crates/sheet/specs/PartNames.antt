-- The three parts of a sheet by their numbers. Assumes nothing.
use Rattle.std.specs.Prelude.{ℕ}
use Rattle.sheet.specs.declared.parts.PartName.{PartName}
use Rattle.sheet.specs.declared.parts.PartName.TheVariants.{Inputs, Rows, Table}

abbrev pub part_number : PartName → ℕ
part_number Inputs = 0
part_number Rows = 1
part_number Table = 2
