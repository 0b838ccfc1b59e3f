-- A sheet that the code takes is safe. Assumes nothing.
use Rattle.std.proofs.Common.{ℕ, List, ℤ, IfOk, Ok, Err, Result}
use Rattle.sheet.specs.Bytes.{AllBytes}
use Rattle.sheet.specs.Format.{WellFormed}
use Rattle.sheet.specs.Views.{seen}
use Rattle.sheet.specs.declared.refusals.Refusal.{Refusal}
use Rattle.sheet.specs.declared.views.Sheet.{Sheet}
use Rattle.sheet.proofs.Accepted.{accepted}
use Rattle.domain.specs.Carrier.{as_dom}
use Rattle.domain.specs.Model.{Ops}
use Rattle.rules.specs.Faults.{Meets}
use Rattle.rules.specs.Safety.{SafeParts, SafeSheet, TakenIsSafe}
use Rattle.rules.specs.Tables.{verdict_of}
use Rattle.checker.specs.Grids.{places_in}
use Rattle.checker.proofs.Meeting.{meets-ok}

module _ (V : Type 0) (describes : V → ℤ → Type 0) (o : Ops V) (law : TakenIsSafe (as_dom V describes o)) (bs : List ℕ) (bytes : AllBytes bs) where
  pub taken-safe : (r : Result Sheet Refusal) → Meets (places_in r) (verdict_of o bs) → IfOk r (λ s. WellFormed bs (seen s))
      → IfOk r (λ s. SafeParts (as_dom V describes o) (seen s))
  taken-safe (Ok s) h w = (law bs s.places (seen s) bytes (accepted bs (seen s) w) (meets-ok s.places (verdict_of o bs) h)).1
  taken-safe (Err d) h w = tt

pub sheet-safe : (V : Type 0) (describes : V → ℤ → Type 0) (o : Ops V) (bs : List ℕ) (s : Sheet)
    → WellFormed bs (seen s) → SafeParts (as_dom V describes o) (seen s) → SafeSheet (as_dom V describes o) bs
sheet-safe V describes o bs s w safe = (seen s, accepted bs (seen s) w, safe)
