-- No call on a sound bay answers a trap, and each leaves it sound. Assumes nothing.
use Rattle.std.proofs.Common.{◌≡◌, ℕ, List, [], Ok, Result, sym, refl, ap, ◌∙◌, subst, arith}
use Rattle.number.specs.declared.Trap.{Trap}
use Rattle.machine.specs.Imp.{Stmt, assign, branch, done as finished}
use Rattle.machine.specs.Runs.{Spot, start, Trapped, Traps, zero, range, Reaches, stays, onward}
use Rattle.machine.specs.declared.Input.{Input}
use Rattle.machine.specs.declared.Row.{Row}
use Rattle.machine.specs.declared.Row.TheVariants.{End}
use Rattle.sheet.specs.Parts.{Parts}
use Rattle.sheet.specs.Sheets.{sheet_of}
use Rattle.rules.specs.Faults.{Fault}
use Rattle.rules.specs.Tables.{routine_of}
use Rattle.bay.specs.Calls
use Rattle.bay.specs.Calls.{Call, Answer, taken, moved, ended, trapped, shown, refused, Happens, nothing_held, runs_already, does_not_run, offer_taken, offer_refused, started, set_changed, set_nothing, set_outside, stepped, step_ended, step_trapped, step_outside, stopped, shows, shows_nothing}
use Rattle.bay.specs.Model.{View, nothing, with_mode}
use Rattle.bay.specs.Stands.{traps_in}
use Rattle.bay.specs.declared.Mode.{Mode}
use Rattle.bay.specs.declared.Mode.TheVariants.{Empty, Held, Running}

-- nothing that a routine reaches from its start traps
abbrev pub Untrapped : List Input → List Row → Type 0
Untrapped inputs rows = (s : Spot) → Reaches inputs rows start s → (t : Trap) → Trapped inputs rows s t → ⊥

-- a bay is sound: its routine is untrapped, and where it runs it is at a state that it reaches
pub record Sound (v : View) : Type 0 where
  pub safe : Untrapped v.inputs v.rows
  pub here : v.mode ≡ Running → Reaches v.inputs v.rows start v.state

-- how a call judges sheets: what it takes is untrapped
abbrev pub Judges : Call → Type 0
Judges c =
    (judge : List ℕ → Result ℕ Fault) (bs : List ℕ) (n : ℕ) (s : Parts) → c ≡ Calls.offer judge bs → judge bs ≡ Ok n → sheet_of bs ≡ Ok s
    → Untrapped (routine_of s).inputs (routine_of s).rows

-- an answer without a trap, and a sound bay after it
pub record Fine (a : Answer) (v : View) : Type 0 where
  pub quiet : traps_in a ≡ 0
  pub sound : Sound v

abbrev pub mode_number : Mode → ℕ
mode_number Empty = 0
mode_number Held = 1
mode_number Running = 2

held-not-running : Held ≡ Running → ⊥
held-not-running e = let n : ◌≡◌ {A = ℕ} 1 2 = ap mode_number e in omega arith

-- the same bay, and an answer that is no trap
same : {v v' : View} {a b : Answer} → Sound v → a ≡ b → traps_in b ≡ 0 → v' ≡ v → Fine a v'
same {v} {v'} {a} {b} sound answer none bay = record {
  quiet = ap traps_in answer ∙ none;
  sound = subst Sound (sym bay) sound;
}

-- a bay that no longer runs
rests : {v : View} → Sound v → Sound (with_mode Held v)
rests sound = record { safe = sound.safe; here = λ e. absurd (held-not-running e) }

pub fine : {v v' : View} {c : Call} {a : Answer} → Judges c → Sound v → Happens v c a v' → Fine a v'
fine law sound (nothing_held _ _ ea ev) = same sound ea refl ev
fine law sound (runs_already _ _ ea ev) = same sound ea refl ev
fine law sound (does_not_run _ _ ea ev) = same sound ea refl ev
fine law sound (offer_taken {judge} {bs} {n} {s} ec _ judged read ea ev) =
    same (record { safe = law judge bs n s ec judged read; here = λ e. absurd (held-not-running e) }) ea refl ev
fine law sound (offer_refused _ _ _ _ ea ev) = same sound ea refl ev
fine law sound (started _ _ ea ev) = same (record { safe = sound.safe; here = λ _. stays }) ea refl ev
fine law sound (set_changed _ _ _ _ ea ev) = same (record { safe = sound.safe; here = sound.here }) ea refl ev
fine law sound (set_nothing _ _ _ ea ev) = same sound ea refl ev
fine law sound (set_outside _ _ _ _ ea ev) = same sound ea refl ev
fine law sound (stepped _ runs goes _ ea ev) =
    same (record { safe = sound.safe; here = λ _. onward (sound.here runs) goes }) ea refl ev
fine law sound (step_ended _ _ _ ea ev) = same (rests sound) ea refl ev
fine law sound (step_trapped {z} {t} _ runs traps ea ev) = absurd (sound.safe _ (sound.here runs) t traps)
fine law sound (step_outside _ _ _ _ _ ea ev) = same sound ea refl ev
fine law sound (stopped _ _ ea ev) = same (rests sound) ea refl ev
fine law sound (shows _ _ _ ea ev) = same sound ea refl ev
fine law sound (shows_nothing _ _ _ ea ev) = same sound ea refl ev

pub empty-not-running : Empty ≡ Running → ⊥
empty-not-running e = let n : ◌≡◌ {A = ℕ} 0 2 = ap mode_number e in omega arith

-- an end row traps nowhere
abbrev goes_on : Stmt → ℕ
goes_on (assign x e t) = 1
goes_on (branch e t u) = 1
goes_on finished = 0

pub no_row : (inputs : List Input) (s : Spot) (t : Trap) → Traps inputs End s t → ⊥
no_row inputs s t (zero e d) = let n : ◌≡◌ {A = ℕ} 0 1 = ap goes_on e in omega arith
no_row inputs s t (range e v out) = let n : ◌≡◌ {A = ℕ} 0 1 = ap goes_on e in omega arith

-- a bay that holds nothing has a routine of no rows, which traps nowhere
pub nothing-sound : Sound nothing
nothing-sound = record { safe = λ s _ t traps. no_row [] s t traps; here = λ e. absurd (empty-not-running e) }
