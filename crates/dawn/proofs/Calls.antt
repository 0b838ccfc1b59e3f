-- The calls of the morning, each a case of the rules. Assumes nothing.
use Rattle.std.proofs.Common.{◌≡◌, ℕ, zero, suc, Bool, true, ◌&&◌, ltb, List, [], ◌∷◌, pos, Ok, Err, Result, refl, lit<}
use lib.Signed.{le_z_yes}
use Rattle.std.proofs.lemmas.Bool.{and_parts, ltb-true}
use Rattle.number.specs.Exact.{Int32}
use Rattle.machine.proofs.Tells.{told}
use Rattle.sheet.specs.Bytes.{AllBytes}
use Rattle.sheet.specs.Parts.{Parts}
use Rattle.sheet.specs.Sheets.{sheet_of}
use Rattle.sheet.specs.declared.refusals.Refusal.{Refusal}
use Rattle.layers.specs.Piles.{leaf}
use Rattle.span.specs.Ends.{spanned}
use Rattle.span.specs.Model.{span_ops}
use Rattle.rules.specs.Faults.{Fault}
use Rattle.rules.specs.Tables.{verdict_of}
use Rattle.bay.specs.Calls
use Rattle.bay.specs.Calls.{Happens, done, moved, ended, offer_taken}
use Rattle.bay.specs.Model.{View, nothing, holding, start_of, step_of, row_now}
use Rattle.bay.specs.Stands
use Rattle.bay.specs.Stands.{Succession, none, after, call_of, offer_in}
use Rattle.bay.proofs.Kept.{empty-not-running}
use Rattle.bay.proofs.Rules.{start-happens}
use Rattle.bay.proofs.Steps.{step-happens}
use Rattle.catalog.specs.Shipped.{shipped}
use Rattle.dawn.specs.Sheet.{dawn}
use Rattle.dawn.specs.Morning.{Morning}

-- every number of the sheet is a byte
abbrev small : List ℕ → Bool
small [] = true
small (x ∷ xs) = ltb x 256 && small xs

bytes : (xs : List ℕ) → small xs ≡ true → AllBytes xs
bytes [] e i = lit< tt
bytes (x ∷ xs) e zero = ltb-true x 256 (and_parts (ltb x 256) (small xs) e).0
bytes (x ∷ xs) e (suc i) = bytes xs (and_parts (ltb x 256) (small xs) e).1 i

-- its parts
abbrev found : Parts → Result Parts Refusal → Parts
found d (Ok s) = s
found d (Err e) = d

abbrev no_parts : Parts
no_parts = record {
  variables = 0;
  input_count = 0;
  places = 0;
  inputs = record { at = 0; bytes = [] };
  rows = record { at = 0; bytes = [] };
  table = record { at = 0; bytes = [] };
}

abbrev parts : Parts
parts = found no_parts (sheet_of dawn)

read : ◌≡◌ {A = Result Parts Refusal} (sheet_of dawn) (Ok parts)
read = refl

taken : ◌≡◌ {A = Result ℕ Fault} (verdict_of span_ops dawn) (Ok 5)
unfolding spanned
taken = refl

-- the bay, call by call
abbrev offered : View
offered = holding parts

abbrev started : View
started = (start_of offered).1

abbrev with_volts : View
with_volts = (step_of (pos 120) started).1

abbrev with_amperes : View
with_amperes = (step_of (pos 0) with_volts).1

abbrev at_end : View
at_end = (step_of (pos 0) with_amperes).1

abbrev over : View
over = (step_of (pos 0) at_end).1

volts : Int32 (pos 120)
volts = record { low = le_z_yes tt; high = le_z_yes tt }

none_read : Int32 (pos 0)
none_read = record { low = le_z_yes tt; high = le_z_yes tt }

-- each call is a case of the rules
offers : Happens nothing (call_of shipped (offer_in (leaf 0) dawn (bytes dawn refl))) (Calls.taken 5) offered
offers = offer_taken refl empty-not-running taken read refl refl

starts : Happens offered (call_of shipped Stands.start) done started
starts = start-happens offered

reads-volts : Happens started (call_of shipped (Stands.step (pos 120))) (moved 1) with_volts
reads-volts = step-happens started (pos 120) refl (pos 120, refl, told started.inputs (row_now started) started.state (pos 120) volts volts)

reads-amperes : Happens with_volts (call_of shipped (Stands.step (pos 0))) (moved 2) with_amperes
reads-amperes = step-happens with_volts (pos 0) refl (pos 0, refl, told with_volts.inputs (row_now with_volts) with_volts.state (pos 0) none_read none_read)

forks : Happens with_amperes (call_of shipped (Stands.step (pos 0))) (moved 4) at_end
forks = step-happens with_amperes (pos 0) refl (pos 0, refl, told with_amperes.inputs (row_now with_amperes) with_amperes.state (pos 0) none_read tt)

ends : Happens at_end (call_of shipped (Stands.step (pos 0))) ended over
ends = step-happens at_end (pos 0) refl (pos 0, refl, told at_end.inputs (row_now at_end) at_end.state (pos 0) none_read tt)

pub morning : Morning
morning = record {
  bytes = bytes dawn refl;
  held = offered;
  offered = offers;
  begun = started;
  started = starts;
  with_volts = with_volts;
  volts = reads-volts;
  with_amperes = with_amperes;
  amperes = reads-amperes;
  at_end = at_end;
  forked = forks;
  over = over;
  finished = ends;
  calls =
      after (after (after (after (after (after none
      (offer_in (leaf 0) dawn (bytes dawn refl)) offers)
      Stands.start starts)
      (Stands.step (pos 120)) reads-volts)
      (Stands.step (pos 0)) reads-amperes)
      (Stands.step (pos 0)) forks)
      (Stands.step (pos 0)) ends;
  rests = refl;
  last = refl;
  read_volts = refl;
  read_amperes = refl;
}
