-- A taken sheet makes a bay that keeps to what every bay does. Assumes nothing.
use Rattle.std.proofs.Common.{◌≡◌, ℕ, suc, Bool, true, false, T, List, [], ◌∷◌, map, ℤ, ◌≤ℤ◌, Ok, Err, Result, refl, ap}
use lib.Signed.{le_z, ≤ℤ_refl}
use Rattle.std.proofs.lemmas.Bool.{and_from}
use Rattle.machine.specs.Inputs.{allows}
use Rattle.machine.specs.Runs.{start}
use Rattle.machine.specs.declared.Input.{Input}
use Rattle.sheet.specs.Format.{Proper, WellFormed}
use Rattle.sheet.specs.Parts.{Parts}
use Rattle.domain.specs.Carrier.{Dom}
use Rattle.rules.specs.Safety.{SafeParts}
use Rattle.rules.specs.Tables.{routine_of}
use Rattle.rules.specs.Ways.{input_on}
use Rattle.rules.proofs.Sheets.{well-made}
use Rattle.rules.specs.Faults.{Fault, Meets}
use Rattle.sheet.specs.Sheets.{sheet_of}
use Rattle.sheet.specs.declared.refusals.Refusal.{Refusal}
use Rattle.checker.proofs.Meeting.{meets-ok, meets-err}
use Rattle.bay.specs.Calls
use Rattle.bay.specs.Calls.{Happens, offer_taken, offer_refused}
use Rattle.bay.specs.Calm.{CanTrap, settled}
use Rattle.bay.specs.Model.{View, holding}
use Rattle.bay.specs.Views.{offered}
use Rattle.bay.specs.declared.Mode.TheVariants.{Running}

le_test : (a b : ℤ) → a ≤ℤ b → le_z a b ≡ true
le_test a b h = go (le_z a b) h.le
  where
    go : (t : Bool) → T t → t ≡ true
    go true k = refl
    go false k = absurd k

-- each setting at its lo is one of its set
settled-lo : (inputs : List Input) → ((k : ℕ) → Proper (input_on inputs k)) → settled inputs (map (λ i. i.lo) inputs) ≡ true
settled-lo [] proper = refl
settled-lo (i ∷ inputs) proper =
    and_from (allows i i.lo) (settled inputs (map (λ n. n.lo) inputs))
    (and_from (le_z i.lo i.lo) (le_z i.lo i.hi) (le_test i.lo i.lo (≤ℤ_refl i.lo)) (le_test i.lo i.hi (proper 0).some))
    (settled-lo inputs (λ k. proper (suc k)))

pub starts-settled : (bs : List ℕ) (s : Parts) → WellFormed bs s → settled (routine_of s).inputs (map (λ i. i.lo) (routine_of s).inputs) ≡ true
starts-settled bs s w = settled-lo (routine_of s).inputs (well-made bs s w).inputs

pub starts-safe : (d : Dom) (s : Parts) → SafeParts d s → CanTrap (routine_of s).inputs (routine_of s).rows start → ⊥
starts-safe d s safe t = safe.untrapped t.state t.reached t.trap t.traps

-- an offer to a bay that does not run
module _ (v v' : View) (judge : List ℕ → Result ℕ Fault) (bs : List ℕ) (rests : v.mode ≡ Running → ⊥) where
  pub taken-rule : (n : ℕ) (s : Parts) → Meets (Ok n) (judge bs) → sheet_of bs ≡ Ok s → v' ≡ holding s → Happens v (Calls.offer judge bs) (Calls.taken n) v'
  taken-rule n s h read after = offer_taken refl rests (meets-ok n (judge bs) h) read refl after

  pub refused-rule : (r : Refusal) (answer : Result ℕ Refusal) → answer ≡ Err r → Meets (Err r) (judge bs) → v' ≡ v
      → Happens v (Calls.offer judge bs) (offered answer) v'
  refused-rule r answer is h after =
      let f = meets-err r (judge bs) h in
      offer_refused refl rests f.1 f.2 (ap offered is) after
