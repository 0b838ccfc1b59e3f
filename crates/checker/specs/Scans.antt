-- The questions that the functions of the check answer, one for each. Assumes nothing.
use Rattle.std.specs.Prelude.{ℕ, cond, pos, is_some, Some, None, Ok, Option, ◌==◌}
use Rattle.scan.specs.Scan.{and_then, Check, unless, up_to}
use Rattle.number.specs.Exact.{mirrored}
use Rattle.number.specs.declared.Relation.{Relation}
use Rattle.machine.specs.declared.Row.{Row}
use Rattle.sheet.specs.Parts.{Parts}
use Rattle.sheet.specs.declared.refusals.Refusal.TheVariants.{CellUnreadable, StartUncovered}
use Rattle.domain.specs.Model.{Ops}
use Rattle.rules.specs.Checks.{lands, place_right, places_right, start_right, unwarned}
use Rattle.rules.specs.Faults.{Fault, fixed}
use Rattle.rules.specs.Tables.{Table, cell_at, claims_of, entries_right, routine_of}
use Rattle.rules.specs.Ways.{go, changed, fork_way, way, ways}
use Rattle.checker.specs.Grids.{routine_in, claims_in}
use Rattle.checker.specs.declared.changes.Change.{Change}
use Rattle.checker.specs.declared.changes.Change.TheVariants.{Nothing, Two}
use Rattle.checker.specs.declared.grids.Grid.{Grid}

-- a cell holds a value
abbrev pub cell_right : {V : Type 0} → Ops V → Table → ℕ → ℕ → Check Fault
cell_right o t place x = unless (is_some (o.reads (cell_at t place x))) (fixed (CellUnreadable place x))

-- what narrowing changes: both operands, or neither where they are one variable; none where the way is passed over
abbrev pub both_narrowed : {V : Type 0} → ℕ → ℕ → Option V → Option V → Option (Change V)
both_narrowed a b None w = None
both_narrowed a b (Some v) None = None
both_narrowed a b (Some v) (Some w) = Some (Two a v b w)

abbrev pub narrowed_to : {V : Type 0} → Ops V → (ℕ → V) → Relation → ℕ → ℕ → Option (Change V)
narrowed_to o cells rel a b =
    cond (a == b) (Some Nothing) (both_narrowed a b (o.narrows (cells a) rel (cells b)) (o.narrows (cells b) (mirrored rel) (cells a)))

module _ {V : Type 0} (o : Ops V) (g : Grid) where
  -- entry 0 covers the value of 0 for a variable
  abbrev pub start_cell : ℕ → Check Fault
  start_cell x = unless (o.covers ((claims_in o g).cell 0 x) (o.value (pos 0) (pos 0))) (fixed (StartUncovered x))

  -- x set to a value on the only way out of a place
  abbrev pub assignment_right : ℕ → ℕ → V → ℕ → Check Fault
  assignment_right place x value t = lands o (routine_in g) (claims_in o g) place 0 (go t (changed ((claims_in o g).cell place) x value))

  -- a way of a fork on which the relation holds
  abbrev pub fork_right : ℕ → ℕ → Relation → ℕ → ℕ → ℕ → Check Fault
  fork_right place w rel a b t = lands o (routine_in g) (claims_in o g) place w (fork_way o ((claims_in o g).cell place) rel a b t)

  -- a row at a place: its warnings, then its ways
  abbrev pub row_right : ℕ → Row → Check Fault
  row_right place row =
      and_then (unwarned o (routine_in g) (claims_in o g) place row)
      (λ _. up_to (λ w. lands o (routine_in g) (claims_in o g) place w (way o (routine_in g).inputs row ((claims_in o g).cell place) w)) (ways (routine_in g).inputs row))

  -- a place, where its entry is present
  abbrev pub place_checked : ℕ → Check Fault
  place_checked place = cond ((claims_in o g).present place) (place_right o (routine_in g) (claims_in o g) place) (Ok tt)

  -- what the table claims holds at the start and along every way
  abbrev pub claims_right : Check Fault
  claims_right = and_then (start_right o (routine_in g) (claims_in o g)) (λ _. places_right o (routine_in g) (claims_in o g) g.sheet.places)

-- the table of a sheet, with cells of w bytes: its entries can be read, and what they claim holds
abbrev pub with_width : Parts → ℕ → Table
with_width s w = record { width = w; variables = s.variables; places = s.places; bytes = s.table.bytes }

abbrev pub table_holds : {V : Type 0} → Ops V → Parts → ℕ → Check Fault
table_holds o s w =
    and_then (entries_right o (with_width s w)) (λ _.
    and_then (start_right o (routine_of s) (claims_of o (with_width s w))) (λ _.
    places_right o (routine_of s) (claims_of o (with_width s w)) s.places))
