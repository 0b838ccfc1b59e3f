-- The check of a routine against what its table claims, over any domain. Assumes nothing.
use Rattle.std.specs.Prelude.{ℕ, zero, suc, Bool, true, cond, not, ◌&&◌, List, pos, Ok, nat_lt}
use Rattle.scan.specs.Scan.{and_then, Check, unless, up_to}
use Rattle.machine.specs.Runs.{row_on}
use Rattle.machine.specs.declared.Input.{Input}
use Rattle.machine.specs.declared.Row.{Row}
use Rattle.machine.specs.declared.Row.TheVariants.{End, Put, Take, Work, Fork}
use Rattle.sheet.specs.declared.refusals.Refusal.TheVariants.{StartAbsent, StartUncovered, ZeroWarning, RangeWarning, EntryAbsent}
use Rattle.domain.specs.Model.{Ops}
use Rattle.rules.specs.Claims.{Claims}
use Rattle.rules.specs.Faults.{Fault, fixed, uncovered}
use Rattle.rules.specs.Ways.{Way, pass, go, way, ways}

-- a routine: how many variables it has, its inputs and its rows
pub record Routine : Type 0 where
  pub variables : ℕ
  pub inputs : List Input
  pub rows : List Row

-- a test holds at each index below n
abbrev pub all_below : (ℕ → Bool) → ℕ → Bool
all_below f zero = true
all_below f (suc n) = all_below f n && f n

module _ {V : Type 0} (o : Ops V) (r : Routine) (claims : Claims V) where
  -- entry 0 is present, and its cells cover the value of 0
  abbrev pub start_right : Check Fault
  start_right =
      and_then (unless (claims.present 0) (fixed StartAbsent))
      (λ _. up_to (λ x. unless (o.covers (claims.cell 0 x) (o.value (pos 0) (pos 0))) (fixed (StartUncovered x))) r.variables)

  -- a work row may not warn of zero, and then not of range
  abbrev pub unwarned : ℕ → Row → Check Fault
  unwarned place End = Ok tt
  unwarned place (Put x n t) = Ok tt
  unwarned place (Take x k t) = Ok tt
  unwarned place (Work x op a b t) =
      and_then (unless (not (o.works op (claims.cell place a) (claims.cell place b)).1) (fixed (ZeroWarning place)))
      (λ _. unless (not (o.works op (claims.cell place a) (claims.cell place b)).2) (fixed (RangeWarning place)))
  unwarned place (Fork rel a b t u) = Ok tt

  -- the entry at t covers these values
  abbrev pub covered : ℕ → (ℕ → V) → ℕ → Bool
  covered t values x = o.covers (claims.cell t x) (values x)

  -- the entry gone to is present and covers every variable
  abbrev pub lands : ℕ → ℕ → Way V → Check Fault
  lands place w pass = Ok tt
  lands place w (go t values) =
      and_then (unless (claims.present t) (fixed (EntryAbsent place w)))
      (λ _. unless (all_below (covered t values) r.variables) (uncovered place w (λ x. nat_lt x r.variables && not (covered t values x))))

  -- way w out of a place
  abbrev pub way_right : ℕ → ℕ → Check Fault
  way_right place w = lands place w (way o r.inputs (row_on r.rows place) (claims.cell place) w)

  -- a place: its warnings, then its ways
  abbrev pub place_right : ℕ → Check Fault
  place_right place =
      and_then (unwarned place (row_on r.rows place))
      (λ _. up_to (way_right place) (ways r.inputs (row_on r.rows place)))

  -- the places with a present entry, in rising order
  abbrev pub places_right : ℕ → Check Fault
  places_right places = up_to (λ place. cond (claims.present place) (place_right place) (Ok tt)) places
