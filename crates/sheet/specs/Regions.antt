-- A part as plain numbers and lists. Assumes nothing.
use Rattle.std.specs.Prelude.{Ok, Err, Result}
use Rattle.sheet.specs.Parts.{Region}
use Rattle.sheet.specs.declared.parts.Part.{Part}

abbrev pub region : Part → Region
region p = record { at = p.at; bytes = p.bytes.now }

-- the same of an answer
abbrev pub region_in : {E : Type 0} → Result Part E → Result Region E
region_in (Ok p) = Ok (region p)
region_in (Err e) = Err e
