-- What a table claims, over any domain. Assumes nothing.
use Rattle.std.specs.Prelude.{◌≡◌, ℕ, ◌<◌, Bool, true, ℤ}
use Rattle.machine.specs.Imp.{look_up}
use Rattle.machine.specs.Runs.{Spot}

-- for each place, whether its entry is present, and what each variable may be there
pub record Claims (V : Type 0) : Type 0 where
  pub present : ℕ → Bool
  pub cell : ℕ → ℕ → V

-- a table describes a state if the entry at its place is present and each cell describes its variable
pub record Described {V : Type 0} (describes : V → ℤ → Type 0) (variables : ℕ) (claims : Claims V) (s : Spot) : Type 0 where
  pub here : claims.present s.place ≡ true
  pub each : (x : ℕ) → x < variables → describes (claims.cell s.place x) (look_up s.locals x)
