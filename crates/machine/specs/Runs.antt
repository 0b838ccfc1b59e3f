-- The steps of a routine and the states that it reaches, by IMP's transition rules within 32-bit integers.
-- Assumes nothing.
use Rattle.std.specs.Prelude.{◌≡◌, ℕ, List, replicate, ℤ, pos, ◌≢◌, slice_index_or, slice_set}
use Rattle.number.specs.Exact.{Int32}
use Rattle.number.specs.declared.Trap.{Trap}
use Rattle.number.specs.declared.Trap.TheVariants.{Zero, Range}
use Rattle.machine.specs.Imp.{Exp, Eval, DividesByZero, assign, branch, done, means}
use Rattle.machine.specs.declared.Input.{Input}
use Rattle.machine.specs.declared.Row.{Row}
use Rattle.machine.specs.declared.Row.TheVariants.{End}

-- a state: a place, and an integer for each variable
pub record Spot : Type 0 where
  pub place : ℕ
  pub locals : List ℤ

-- a run starts at place 0 with every variable 0
abbrev pub start : Spot
start = record { place = 0; locals = replicate 16 (pos 0) }

abbrev pub at : ℕ → List ℤ → Spot
at t locals = record { place = t; locals = locals }

-- every integer of a list is one of 32 bits
abbrev pub AllInt32 : List ℤ → Type 0
AllInt32 xs = (i : ℕ) → Int32 (slice_index_or xs i (pos 0))

-- one step from a state, by the statement that the row at its place stands for
module _ (inputs : List Input) (row : Row) where
  pub data Goes (s : Spot) : Spot → Type 0 where
    -- x := e: e evaluates to n, and the locals map x to n
    assigned : {x t : ℕ} {e : Exp} {n : ℤ} → means inputs row ≡ assign x e t → Eval s.locals e n → Int32 n → Goes s (at t (slice_set s.locals x n))
    -- a condition that evaluates to something other than 0 goes the first way
    held : {e : Exp} {t u : ℕ} {n : ℤ} → means inputs row ≡ branch e t u → Eval s.locals e n → (n ≢ pos 0) → Goes s (at t s.locals)
    -- one that evaluates to 0 goes the second
    failed : {e : Exp} {t u : ℕ} → means inputs row ≡ branch e t u → Eval s.locals e (pos 0) → Goes s (at u s.locals)

  -- the run ends
  abbrev pub Ends : Type 0
  Ends = means inputs row ≡ done

  -- the step traps: a divisor is 0, or the result is no integer of 32 bits
  pub data Traps (s : Spot) : Trap → Type 0 where
    zero : {x t : ℕ} {e : Exp} → means inputs row ≡ assign x e t → DividesByZero s.locals e → Traps s Zero
    range : {x t : ℕ} {e : Exp} {n : ℤ} → means inputs row ≡ assign x e t → Eval s.locals e n → (Int32 n → ⊥) → Traps s Range

-- the row at a place; a place that is not there ends
abbrev pub row_on : List Row → ℕ → Row
row_on rows place = slice_index_or rows place End

module _ (inputs : List Input) (rows : List Row) where
  -- one step of a routine
  abbrev pub Step : Spot → Spot → Type 0
  Step s s' = Goes inputs (row_on rows s.place) s s'

  -- the step at a state traps
  abbrev pub Trapped : Spot → Trap → Type 0
  Trapped s t = Traps inputs (row_on rows s.place) s t

  -- the states that a run reaches from a state: itself, and where one step leads from one that it reaches
  pub data Reaches (from : Spot) : Spot → Type 0 where
    stays : Reaches from from
    onward : {s s' : Spot} → Reaches from s → Step s s' → Reaches from s'
