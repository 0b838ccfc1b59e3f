-- Parts and reports in words, as the bytes of a text. Assumes nothing.
use Rattle.std.specs.Prelude.{ℕ, List, ◌++◌, codes, decimal}
use Rattle.sheet.specs.declared.parts.PartName.{PartName}
use Rattle.sheet.specs.declared.parts.PartName.TheVariants.{Inputs, Rows, Table}
use Rattle.sheet.specs.declared.refusals.Report.{Report}

abbrev pub part_word : PartName → List ℕ
part_word Inputs = codes "inputs"
part_word Rows = codes "rows"
part_word Table = codes "table"

-- the four numbers, with a space between each and the next
abbrev pub report_words : Report → List ℕ
report_words r =
    decimal r.number ++ (codes " " ++ (decimal r.place ++ (codes " " ++ (decimal r.way ++ (codes " " ++ decimal r.variable)))))
