-- The bay as a transition system: what it holds, and what each call answers and leaves. Assumes nothing.
use Rattle.std.specs.Prelude.{ℕ, Bool, true, false, cond, List, [], map, ℤ, pos, Some, None, Ok, Err, Option, Result, nat_lt, slice_index_or, slice_set}
use Rattle.std.specs.List.{slice_get}
use Rattle.machine.specs.Imp.{look_up}
use Rattle.machine.specs.Inputs.{allows}
use Rattle.machine.specs.Runs.{Spot, start, row_on}
use Rattle.machine.specs.Steps.{outcome_of, after_step}
use Rattle.machine.specs.declared.Input.{Input}
use Rattle.machine.specs.declared.InputKind.{InputKind}
use Rattle.machine.specs.declared.InputKind.TheVariants.{Reading, Setting}
use Rattle.machine.specs.declared.Row.{Row}
use Rattle.machine.specs.declared.Row.TheVariants.{End, Put, Take, Work, Fork}
use Rattle.machine.specs.declared.states.Outcome.{Outcome}
use Rattle.machine.specs.declared.states.Outcome.TheVariants.{At, Ended, Trapped}
use Rattle.sheet.specs.Parts.{Parts}
use Rattle.sheet.specs.Sheets.{sheet_of}
use Rattle.sheet.specs.declared.refusals.Refusal.{Refusal}
use Rattle.sheet.specs.declared.refusals.Refusal.TheVariants.{NoSetting, SettingOutside, ReadingOutside, NoVariable, NothingHeld, Running as RunsAlready, NotRunning}
use Rattle.rules.specs.Faults.{Fault, fixed}
use Rattle.rules.specs.Tables.{routine_of}
use Rattle.bay.specs.declared.Mode.{Mode}
use Rattle.bay.specs.declared.Mode.TheVariants.{Empty, Held, Running}
use Rattle.bay.specs.declared.Shown.{Shown}

-- what a bay holds: its mode, a routine, the settings by their inputs' numbers, and a state
pub record View : Type 0 where
  pub mode : Mode
  pub variables : ℕ
  pub inputs : List Input
  pub settings : List ℤ
  pub rows : List Row
  pub state : Spot

-- a bay that holds nothing
abbrev pub nothing : View
nothing = record { mode = Empty; variables = 0; inputs = []; settings = []; rows = []; state = start }

-- a bay that holds the routine of a sheet: at the start, with each setting at its lo
abbrev pub holding : Parts → View
holding s = record {
  mode = Held;
  variables = s.variables;
  inputs = (routine_of s).inputs;
  settings = map (λ i. i.lo) (routine_of s).inputs;
  rows = (routine_of s).rows;
  state = start;
}

abbrev pub with_mode : Mode → View → View
with_mode m v = record { mode = m; variables = v.variables; inputs = v.inputs; settings = v.settings; rows = v.rows; state = v.state }

abbrev pub with_state : Spot → View → View
with_state s v = record { mode = v.mode; variables = v.variables; inputs = v.inputs; settings = v.settings; rows = v.rows; state = s }

abbrev pub with_settings : List ℤ → View → View
with_settings zs v = record { mode = v.mode; variables = v.variables; inputs = v.inputs; settings = zs; rows = v.rows; state = v.state }

-- by mode: nothing held, held, running
abbrev pub by_mode : {A : Type 0} → Mode → A → A → A → A
by_mode Empty e h r = e
by_mode Held e h r = h
by_mode Running e h r = r

-- offer: how a sheet was judged decides what is held then
abbrev pub takes : View → Result ℕ Fault → Result Parts Refusal → View
takes v (Ok n) (Ok s) = holding s
takes v (Ok n) (Err e) = v
takes v (Err f) p = v

abbrev pub offer_answer : (List ℕ → Result ℕ Fault) → List ℕ → View → Result ℕ Fault
offer_answer judge bs v = by_mode v.mode (judge bs) (judge bs) (Err (fixed RunsAlready))

abbrev pub offer_after : (List ℕ → Result ℕ Fault) → List ℕ → View → View
offer_after judge bs v = by_mode v.mode (takes v (judge bs) (sheet_of bs)) (takes v (judge bs) (sheet_of bs)) v

-- start
abbrev pub Done : Type 0
Done = Result (Unit {0}) Refusal

abbrev pub start_of : View → Done × View
start_of v = by_mode v.mode (Err NothingHeld, v) (Ok tt, with_state start (with_mode Running v)) (Err RunsAlready, v)

-- stop
abbrev pub stop_of : View → Done × View
stop_of v = by_mode v.mode (Err NothingHeld, v) (Err NotRunning, v) (Ok tt, with_mode Held v)

-- set, of input k by its kind
abbrev pub set_kind : View → ℕ → ℤ → Input → InputKind → Done × View
set_kind v k z i Reading = (Err NoSetting, v)
set_kind v k z i Setting = cond (allows i z) (Ok tt, with_settings (slice_set v.settings k z) v) (Err SettingOutside, v)

abbrev pub set_to : View → ℕ → ℤ → Option Input → Done × View
set_to v k z None = (Err NoSetting, v)
set_to v k z (Some i) = set_kind v k z i i.kind

abbrev pub set_of : ℕ → ℤ → View → Done × View
set_of k z v = by_mode v.mode (Err NothingHeld, v) (set_to v k z (slice_get v.inputs k)) (set_to v k z (slice_get v.inputs k))

-- what a take of an input takes: the setting, or the reading given, if that is in the set
abbrev pub from_kind : Input → ℤ → ℤ → InputKind → Result ℤ Refusal
from_kind i setting z Reading = cond (allows i z) (Ok z) (Err ReadingOutside)
from_kind i setting z Setting = Ok setting

abbrev pub from_input : Option Input → ℤ → ℤ → Result ℤ Refusal
from_input None setting z = Err ReadingOutside
from_input (Some i) setting z = from_kind i setting z i.kind

-- what a row takes, where the reading z is given with the call; rows that take nothing ignore it
abbrev pub taken_by : View → ℤ → Row → Result ℤ Refusal
taken_by v z End = Ok z
taken_by v z (Put x n t) = Ok z
taken_by v z (Take x k t) = from_input (slice_get v.inputs k) (slice_index_or v.settings k (pos 0)) z
taken_by v z (Work x op a b t) = Ok z
taken_by v z (Fork rel a b t u) = Ok z

-- a routine goes on running at a place; after an end or a trap it is held
abbrev pub mode_after : Outcome → Mode
mode_after (At p) = Running
mode_after Ended = Held
mode_after (Trapped t p) = Held

-- step
abbrev pub moves : View → Row → Result ℤ Refusal → Result Outcome Refusal × View
moves v row (Ok c) = (Ok (outcome_of row v.state c), with_state (after_step row v.state c) (with_mode (mode_after (outcome_of row v.state c)) v))
moves v row (Err r) = (Err r, v)

abbrev pub row_now : View → Row
row_now v = row_on v.rows v.state.place

abbrev pub step_of : ℤ → View → Result Outcome Refusal × View
step_of z v = by_mode v.mode (Err NothingHeld, v) (Err NotRunning, v) (moves v (row_now v) (taken_by v z (row_now v)))

-- show
abbrev pub is_running : Mode → Bool
is_running Empty = false
is_running Held = false
is_running Running = true

abbrev pub shows_of : ℕ → View → Result Shown Refusal
shows_of x v = cond (nat_lt x v.variables) (Ok (record { running = is_running v.mode; place = v.state.place; value = look_up v.state.locals x })) (Err NoVariable)

abbrev pub show_of : ℕ → View → Result Shown Refusal
show_of x v = by_mode v.mode (Err NothingHeld) (shows_of x v) (shows_of x v)
