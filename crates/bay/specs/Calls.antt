-- The rules of the six calls, one case for each: before, call, answer, after. Assumes nothing.
use Rattle.std.specs.Prelude.{◌≡◌, ℕ, ◌<◌, ◌≤◌, Bool, true, false, List, ℤ, pos, Some, Ok, Err, Result, slice_index_or, slice_set}
use Rattle.std.specs.List.{slice_get}
use Rattle.number.specs.declared.Trap.{Trap}
use Rattle.machine.specs.Imp.{look_up}
use Rattle.machine.specs.Inputs.{allows}
use Rattle.machine.specs.Runs.{Spot, at, start, Step, Ends, Trapped}
use Rattle.machine.specs.declared.Input.{Input}
use Rattle.machine.specs.declared.InputKind.TheVariants.{Reading, Setting}
use Rattle.machine.specs.declared.Row.TheVariants.{Take}
use Rattle.sheet.specs.Parts.{Parts}
use Rattle.sheet.specs.Sheets.{sheet_of}
use Rattle.sheet.specs.declared.refusals.Refusal.{Refusal}
use Rattle.sheet.specs.declared.refusals.Refusal.TheVariants.{NoSetting, SettingOutside, ReadingOutside, NoVariable, NothingHeld, Running as RunsAlready, NotRunning}
use Rattle.rules.specs.Faults.{Fault, Allows}
use Rattle.bay.specs.Model.{View, holding, with_mode, with_state, with_settings, row_now, is_running}
use Rattle.bay.specs.declared.Mode.TheVariants.{Empty, Held, Running}

-- a call; an offer comes with how its domain judges sheets
pub data Call : Type 0 where
  offer : (List ℕ → Result ℕ Fault) → List ℕ → Call
  begin : Call
  change : ℕ → ℤ → Call
  step : ℤ → Call
  stop : Call
  show : ℕ → Call

-- an answer
pub data Answer : Type 0 where
  taken : ℕ → Answer
  done : Answer
  moved : ℕ → Answer
  ended : Answer
  trapped : Trap → ℕ → Answer
  shown : Bool → ℕ → ℤ → Answer
  refused : Refusal → Answer

-- any call but an offer
abbrev pub NoOffer : Call → Type 0
NoOffer (offer judge bs) = ⊥
NoOffer begin = Unit {0}
NoOffer (change k z) = Unit {0}
NoOffer (step z) = Unit {0}
NoOffer stop = Unit {0}
NoOffer (show x) = Unit {0}

-- an offer or a start
abbrev pub NeedsRest : Call → Type 0
NeedsRest (offer judge bs) = Unit {0}
NeedsRest begin = Unit {0}
NeedsRest (change k z) = ⊥
NeedsRest (step z) = ⊥
NeedsRest stop = ⊥
NeedsRest (show x) = ⊥

-- a step or a stop
abbrev pub NeedsRun : Call → Type 0
NeedsRun (offer judge bs) = ⊥
NeedsRun begin = ⊥
NeedsRun (change k z) = ⊥
NeedsRun (step z) = Unit {0}
NeedsRun stop = Unit {0}
NeedsRun (show x) = ⊥

-- the bay holds something, and it does not run
abbrev pub Holds : View → Type 0
Holds v = v.mode ≡ Empty → ⊥

abbrev pub Rests : View → Type 0
Rests v = v.mode ≡ Running → ⊥

-- input k is a setting, or a reading
abbrev pub IsSetting : View → ℕ → Input → Type 0
IsSetting v k i = (slice_get v.inputs k ≡ Some i) × (i.kind ≡ Setting)

abbrev pub IsReading : View → ℕ → Input → Type 0
IsReading v k i = (slice_get v.inputs k ≡ Some i) × (i.kind ≡ Reading)

-- a take sets its variable to the setting, or to the reading given with the call
pub record Took (v : View) (z : ℤ) (s : Spot) : Type 0 where
  pub setting : (x k t : ℕ) (i : Input) → row_now v ≡ Take x k t → IsSetting v k i → s ≡ at t (slice_set v.state.locals x (slice_index_or v.settings k (pos 0)))
  pub reading : (x k t : ℕ) (i : Input) → row_now v ≡ Take x k t → IsReading v k i → s ≡ at t (slice_set v.state.locals x z)

-- what may happen at a call: the bay is v before it and v' after it, and the answer is a
pub data Happens (v : View) (c : Call) (a : Answer) (v' : View) : Type 0 where
  -- refusals of state come first, and leave everything as it was
  nothing_held : v.mode ≡ Empty → NoOffer c → a ≡ refused NothingHeld → v' ≡ v → Happens v c a v'
  runs_already : v.mode ≡ Running → NeedsRest c → a ≡ refused RunsAlready → v' ≡ v → Happens v c a v'
  does_not_run : v.mode ≡ Held → NeedsRun c → a ≡ refused NotRunning → v' ≡ v → Happens v c a v'
  -- an offer is taken: the bay holds the routine, at the start; or it is refused as it was judged
  offer_taken : {judge : List ℕ → Result ℕ Fault} {bs : List ℕ} {n : ℕ} {s : Parts} → c ≡ offer judge bs → Rests v
      → judge bs ≡ Ok n → sheet_of bs ≡ Ok s → a ≡ taken n → v' ≡ holding s → Happens v c a v'
  offer_refused : {judge : List ℕ → Result ℕ Fault} {bs : List ℕ} {f : Fault} {r : Refusal} → c ≡ offer judge bs → Rests v
      → judge bs ≡ Err f → Allows f r → a ≡ refused r → v' ≡ v → Happens v c a v'
  -- a start runs it from place 0 with all variables 0
  started : c ≡ begin → v.mode ≡ Held → a ≡ done → v' ≡ with_state start (with_mode Running v) → Happens v c a v'
  -- a set changes a setting to an integer of its set, or is refused
  set_changed : {k : ℕ} {z : ℤ} {i : Input} → c ≡ change k z → Holds v → IsSetting v k i → allows i z ≡ true
      → a ≡ done → v' ≡ with_settings (slice_set v.settings k z) v → Happens v c a v'
  set_nothing : {k : ℕ} {z : ℤ} → c ≡ change k z → Holds v → ((i : Input) → IsSetting v k i → ⊥)
      → a ≡ refused NoSetting → v' ≡ v → Happens v c a v'
  set_outside : {k : ℕ} {z : ℤ} {i : Input} → c ≡ change k z → Holds v → IsSetting v k i → allows i z ≡ false
      → a ≡ refused SettingOutside → v' ≡ v → Happens v c a v'
  -- a step of the routine: to the state that its rules lead to, or to its end, or to a trap; held after the latter two
  stepped : {z : ℤ} {s' : Spot} → c ≡ step z → v.mode ≡ Running → Step v.inputs v.rows v.state s' → Took v z s'
      → a ≡ moved s'.place → v' ≡ with_state s' v → Happens v c a v'
  step_ended : {z : ℤ} → c ≡ step z → v.mode ≡ Running → Ends v.inputs (row_now v)
      → a ≡ ended → v' ≡ with_mode Held v → Happens v c a v'
  step_trapped : {z : ℤ} {t : Trap} → c ≡ step z → v.mode ≡ Running → Trapped v.inputs v.rows v.state t
      → a ≡ trapped t v.state.place → v' ≡ with_mode Held v → Happens v c a v'
  -- a reading that the input does not allow is refused
  step_outside : {z : ℤ} {x k t : ℕ} → c ≡ step z → v.mode ≡ Running → row_now v ≡ Take x k t
      → ((i : Input) → IsSetting v k i → ⊥) → ((i : Input) → IsReading v k i → allows i z ≡ false)
      → a ≡ refused ReadingOutside → v' ≡ v → Happens v c a v'
  -- a stop holds it where it is
  stopped : c ≡ stop → v.mode ≡ Running → a ≡ done → v' ≡ with_mode Held v → Happens v c a v'
  -- a show tells whether it runs, the place and one variable
  shows : {x : ℕ} → c ≡ show x → Holds v → x < v.variables
      → a ≡ shown (is_running v.mode) v.state.place (look_up v.state.locals x) → v' ≡ v → Happens v c a v'
  shows_nothing : {x : ℕ} → c ≡ show x → Holds v → v.variables ≤ x → a ≡ refused NoVariable → v' ≡ v → Happens v c a v'
