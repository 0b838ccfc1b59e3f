-- A table that fits the width of its domain. Assumes nothing.
use Rattle.std.proofs.Common.{◌≡◌, ℕ, ◌+◌, ◌*◌, not, eqb, length, Ok, Result, ap, ◌∙◌, subst}
use Rattle.std.proofs.lemmas.Bool.{eq-eqb, ne_eqb}
use Rattle.scan.specs.Scan.{unless}
use Rattle.scan.proofs.Scans.{passes, then-on}
use Rattle.sheet.specs.Parts.{Parts}
use Rattle.sheet.specs.declared.refusals.Refusal.{Refusal}
use Rattle.sheet.specs.declared.refusals.Refusal.TheVariants.{NoWidth}
use Rattle.domain.specs.Model.{Ops}
use Rattle.rules.specs.Faults.{fixed, Meets}
use Rattle.rules.specs.Tables.{table_fits, table_right}
use Rattle.checker.specs.Scans.{table_holds}

module _ {V : Type 0} (o : Ops V) (s : Parts) where
  fits_width : (o.width ≡ 0 → ⊥) → length s.table.bytes ≡ s.places * (1 + s.variables * o.width) → table_fits o s ≡ Ok tt
  fits_width some long =
      then-on (unless (not (eqb o.width 0)) (fixed NoWidth)) _ tt _
      (passes _ _ (ap not (ne_eqb o.width 0 some))) (passes _ _ (eq-eqb _ _ long))

  pub fitting : (w : ℕ) (r : Result (Unit {0}) Refusal) → w ≡ o.width → (w ≡ 0 → ⊥) → length s.table.bytes ≡ s.places * (1 + s.variables * w)
      → Meets r (table_holds o s w) → Meets r (table_right o s)
  fitting w r e some long h =
      let fits : table_fits o s ≡ Ok tt = fits_width (λ z. some (e ∙ z)) (subst (λ (k : ℕ). length s.table.bytes ≡ s.places * (1 + s.variables * k)) e long) in
      rw fits (subst (λ (k : ℕ). Meets r (table_holds o s k)) e h)
