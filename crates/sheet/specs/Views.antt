-- What a view shows, as plain numbers and lists. Assumes nothing.
use Rattle.std.specs.Prelude.{Ok, Err, Result}
use Rattle.sheet.specs.Parts.{Parts}
use Rattle.sheet.specs.Sound.{laid_out}
use Rattle.sheet.specs.declared.views.Layout.{Layout}
use Rattle.sheet.specs.declared.views.Sheet.{Sheet}

abbrev pub seen : Sheet → Parts
seen s = laid_out s.variables s.input_count s.places s.inputs s.rows s.table

abbrev pub laid : Layout → Parts
laid s = laid_out s.variables s.input_count s.places s.inputs s.rows s.table

-- the same of an answer
abbrev pub seen_in : {E : Type 0} → Result Sheet E → Result Parts E
seen_in (Ok s) = Ok (seen s)
seen_in (Err e) = Err e

abbrev pub laid_in : {E : Type 0} → Result Layout E → Result Parts E
laid_in (Ok s) = Ok (laid s)
laid_in (Err e) = Err e
