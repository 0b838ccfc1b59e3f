-- A grid as the rules see it: the parts of its sheet, and its table in its bytes. Assumes nothing.
use Rattle.std.specs.Prelude.{ℕ, Ok, Err, Result}
use Rattle.sheet.specs.Parts.{Parts}
use Rattle.sheet.specs.Views.{seen}
use Rattle.sheet.specs.declared.views.Sheet.{Sheet}
use Rattle.domain.specs.Model.{Ops}
use Rattle.rules.specs.Checks.{Routine}
use Rattle.rules.specs.Claims.{Claims}
use Rattle.rules.specs.Tables.{Table, claims_of, routine_of}
use Rattle.checker.specs.declared.grids.Grid.{Grid}

abbrev pub parts_in : Grid → Parts
parts_in g = seen g.sheet

abbrev pub shown : Grid → Table
shown g = record {
  width = g.width;
  variables = g.sheet.variables;
  places = g.sheet.places;
  bytes = g.sheet.table.bytes.now;
}

-- the routine of its sheet, and what its table claims
abbrev pub routine_in : Grid → Routine
routine_in g = routine_of (parts_in g)

abbrev pub claims_in : {V : Type 0} → Ops V → Grid → Claims V
claims_in o g = claims_of o (shown g)

-- the number of places of a sheet that is answered
abbrev pub places_in : {E : Type 0} → Result Sheet E → Result ℕ E
places_in (Ok s) = Ok s.places
places_in (Err e) = Err e
