-- What one step of the machine does, as it is worked out. Assumes nothing.
use Rattle.std.specs.Prelude.{◌≡◌, ℕ, true, cond, ◌↔◌, List, ℤ, Ok, Err, Result, ◌≢◌, slice_set}
use Rattle.scan.specs.Scan.{and_then}
use Rattle.number.specs.Exact.{Int32, worked, holds}
use Rattle.number.specs.declared.Trap.{Trap}
use Rattle.machine.specs.Imp.{look_up}
use Rattle.machine.specs.Inputs.{may_give}
use Rattle.machine.specs.Runs.{Spot, at, Goes, Ends, Traps}
use Rattle.machine.specs.declared.Input.{Input}
use Rattle.machine.specs.declared.Row.{Row}
use Rattle.machine.specs.declared.Row.TheVariants.{End, Put, Take, Work, Fork}
use Rattle.machine.specs.declared.states.Outcome.{Outcome}
use Rattle.machine.specs.declared.states.Outcome.TheVariants.{At, Ended, Trapped}
use Rattle.machine.specs.declared.states.State.{State}
use Rattle.machine.specs.declared.steps.Act.{Act}
use Rattle.machine.specs.declared.steps.Act.TheVariants.{Stop, Assign, Go}

-- the variables that a row works on or compares; 0 and 0 where there are none
abbrev pub operands : Row → ℕ × ℕ
operands End = (0, 0)
operands (Put x n t) = (0, 0)
operands (Take x k t) = (0, 0)
operands (Work x op a b t) = (a, b)
operands (Fork rel a b t u) = (a, b)

-- what a row does to operands a and b, where a take takes c
abbrev pub act_of : Row → ℤ → ℤ → ℤ → Result Act Trap
act_of End a b c = Ok Stop
act_of (Put x n t) a b c = Ok (Assign x n t)
act_of (Take x k t) a b c = Ok (Assign x c t)
act_of (Work x op _ _ t) a b c = and_then (worked op a b) (λ z. Ok (Assign x z t))
act_of (Fork rel _ _ t u) a b c = Ok (Go (cond (holds rel a b) t u))

-- what a row does at given locals
abbrev pub act_at : Row → List ℤ → ℤ → Result Act Trap
act_at row locals c = act_of row (look_up locals (operands row).0) (look_up locals (operands row).1) c

-- a take takes an integer of its input's set
abbrev pub MayTake : List Input → Row → ℤ → Type 0
MayTake inputs End c = Unit {0}
MayTake inputs (Put x n t) c = Unit {0}
MayTake inputs (Take x k t) c = may_give inputs k c ≡ true
MayTake inputs (Work x op a b t) c = Unit {0}
MayTake inputs (Fork rel a b t u) c = Unit {0}

-- where an act leads from a state
abbrev pub Leads : Spot → Act → Spot → Type 0
Leads s Stop s' = ⊥
Leads s (Assign x n t) s' = s' ≡ at t (slice_set s.locals x n)
Leads s (Go t) s' = s' ≡ at t s.locals

-- the integer that a put sets is one of 32 bits
abbrev pub RowFits : Row → Type 0
RowFits End = Unit {0}
RowFits (Put x n t) = Int32 n
RowFits (Take x k t) = Unit {0}
RowFits (Work x op a b t) = Unit {0}
RowFits (Fork rel a b t u) = Unit {0}

-- whatever an input may give is an integer of 32 bits
abbrev pub SetsFit : List Input → Type 0
SetsFit inputs = (k : ℕ) (z : ℤ) → may_give inputs k z ≡ true → Int32 z

-- The machine takes exactly the steps of the rules, from every state and whatever a take may take, where the
-- integers of the row and of the inputs are of 32 bits.
pub record Faithful (row : Row) (inputs : List Input) (s : Spot) : Type 0 where
  -- an act leads only where a step goes
  pub sound : (c : ℤ) → Int32 c → MayTake inputs row c → (act : Act) → act_at row s.locals c ≡ Ok act → (s' : Spot) → Leads s act s' → Goes inputs row s s'
  -- wherever a step goes, some act leads
  pub complete : (s' : Spot) → Goes inputs row s s' → (c : ℤ) × (act : Act) × Int32 c × MayTake inputs row c × (act_at row s.locals c ≡ Ok act) × Leads s act s'
  -- it ends exactly where the run does
  pub ends : (c : ℤ) → (act_at row s.locals c ≡ Ok Stop → Ends inputs row) × (Ends inputs row → act_at row s.locals c ≡ Ok Stop)
  -- it traps exactly as the step does
  pub traps : (c : ℤ) (t : Trap) → (act_at row s.locals c ≡ Err t → Traps inputs row s t) × (Traps inputs row s t → act_at row s.locals c ≡ Err t)

-- the state that a State holds
abbrev pub shown : State → Spot
shown s = at s.place s.values

-- how an act comes out at a place
abbrev pub placed : ℕ → Result Act Trap → Outcome
placed p (Ok Stop) = Ended
placed p (Ok (Assign x n t)) = At t
placed p (Ok (Go t)) = At t
placed p (Err trap) = Trapped trap p

-- what an act makes of a state; an end or a trap leaves it as it was
abbrev pub changed : Spot → Result Act Trap → Spot
changed s (Ok Stop) = s
changed s (Ok (Assign x n t)) = at t (slice_set s.locals x n)
changed s (Ok (Go t)) = at t s.locals
changed s (Err trap) = s

-- the integer that an act sets is one of 32 bits
abbrev pub ActFits : Result Act Trap → Type 0
ActFits (Ok Stop) = Unit {0}
ActFits (Ok (Assign x n t)) = Int32 n
ActFits (Ok (Go t)) = Unit {0}
ActFits (Err trap) = Unit {0}

-- how the step of a row comes out, where a take takes c
abbrev pub outcome_of : Row → Spot → ℤ → Outcome
outcome_of row s c = placed s.place (act_at row s.locals c)

-- the state after it
abbrev pub after_step : Row → Spot → ℤ → Spot
after_step row s c = changed s (act_at row s.locals c)

-- What the outcome o of a row's step from s to s' says, by the rules, where a take takes c.
pub record Told (inputs : List Input) (row : Row) (s : Spot) (c : ℤ) (o : Outcome) (s' : Spot) : Type 0 where
  -- at a place: the state after is there, and the step goes to it, if the input may give c
  pub goes : (p : ℕ) → o ≡ At p → (s'.place ≡ p) × (MayTake inputs row c → Goes inputs row s s')
  -- ended exactly where the run ends
  pub ends : o ≡ Ended ↔ Ends inputs row
  -- trapped: at the row's place, and so does the step
  pub trapped : (t : Trap) (p : ℕ) → o ≡ Trapped t p → (p ≡ s.place) × Traps inputs row s t
  -- and wherever the step traps
  pub traps : SetsFit inputs → (t : Trap) → Traps inputs row s t → o ≡ Trapped t s.place
  -- unless it goes on, the state is as it was
  pub stays : ((p : ℕ) → o ≢ At p) → s' ≡ s
