-- What the check promises of a routine that it takes. Assumes nothing.
use Rattle.std.specs.Prelude.{◌≡◌, ℕ, List, ℤ, Ok}
use Rattle.number.specs.declared.Trap.{Trap}
use Rattle.machine.specs.Runs.{Spot, start, Trapped, Reaches}
use Rattle.sheet.specs.Bytes.{AllBytes}
use Rattle.sheet.specs.Parts.{Parts}
use Rattle.sheet.specs.Sheets.{sheet_of}
use Rattle.domain.specs.Carrier.{Dom}
use Rattle.rules.specs.Checks.{Routine}
use Rattle.rules.specs.Claims.{Claims, Described}
use Rattle.rules.specs.Tables.{routine_of, table_of, claims_of, verdict_of}

-- a run of the routine comes to this state
abbrev pub Reachable : Routine → Spot → Type 0
Reachable r s = Reaches r.inputs r.rows start s

-- A routine is safe by what a table claims: the table describes every state that a run comes to, and the step traps
-- in none of them.
pub record Safe {V : Type 0} (describes : V → ℤ → Type 0) (r : Routine) (claims : Claims V) : Type 0 where
  pub described : (s : Spot) → Reachable r s → Described describes r.variables claims s
  pub untrapped : (s : Spot) → Reachable r s → (t : Trap) → Trapped r.inputs r.rows s t → ⊥

-- the routine of a sheet is safe by its table
abbrev pub SafeParts : Dom → Parts → Type 0
SafeParts d s = Safe d.describes (routine_of s) (claims_of d.ops (table_of d.ops s))

-- The check of a domain takes only what is safe: whatever the bytes of a sheet, if the verdict is that it is taken,
-- then with as many places as it has, and its routine is safe by its table.
abbrev pub TakenIsSafe : Dom → Type 0
TakenIsSafe d =
    (bs : List ℕ) (n : ℕ) (s : Parts) → AllBytes bs → sheet_of bs ≡ Ok s → verdict_of d.ops bs ≡ Ok n
    → (n ≡ s.places) × SafeParts d s

-- the bytes are a sheet, and its routine is safe by its table
abbrev pub SafeSheet : Dom → List ℕ → Type 0
SafeSheet d bs = (s : Parts) × (sheet_of bs ≡ Ok s) × SafeParts d s
