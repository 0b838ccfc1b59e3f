-- What the model says of held inputs, in terms of the table's own items. Assumes nothing.
use Rattle.std.proofs.Common.{◌≡◌, ℕ, zero, suc, List, [], ◌∷◌, get_or, map, set, ℤ, pos, Some, sym, refl, ap, ◌∙◌}
use Rattle.std.proofs.lemmas.List.{map-set}
use Rattle.std.proofs.lemmas.Option.{none-some, same_Some}
use Rattle.std.specs.List.{slice_get}
use Rattle.machine.specs.declared.Input.{Input}
use Rattle.bay.specs.Model.{from_input}
use Rattle.bay.specs.declared.inputs.HeldInput.{HeldInput}

abbrev inputs_of : List HeldInput → List Input
inputs_of hs = map (λ h. h.input) hs

abbrev settings_of : List HeldInput → List ℤ
settings_of hs = map (λ h. h.setting) hs

-- the input with a number that is held
pub input-held : (hs : List HeldInput) (k : ℕ) (h : HeldInput) → Some h ≡ slice_get hs k → slice_get (inputs_of hs) k ≡ Some h.input
input-held [] k h e = absurd (none-some h (sym e))
input-held (x ∷ hs) zero h e = ap (λ (y : HeldInput). Some y.input) (same_Some _ _ (sym e))
input-held (x ∷ hs) (suc k) h e = input-held hs k h e

-- what is taken of it
pub takes-held : (hs : List HeldInput) (k : ℕ) (h : HeldInput) (z : ℤ) → Some h ≡ slice_get hs k
    → from_input (slice_get (inputs_of hs) k) (get_or (settings_of hs) k (pos 0)) z ≡ from_input (Some h.input) h.setting z
takes-held [] k h z e = absurd (none-some h (sym e))
takes-held (x ∷ hs) zero h z e = ap (λ (y : HeldInput). from_input (Some y.input) y.setting z) (same_Some _ _ (sym e))
takes-held (x ∷ hs) (suc k) h z e = takes-held hs k h z e

-- its setting changed
inputs-set : (hs : List HeldInput) (k : ℕ) (h : HeldInput) (z : ℤ) → Some h ≡ slice_get hs k
    → inputs_of (set hs k (record { input = h.input; setting = z })) ≡ inputs_of hs
inputs-set [] k h z e = refl
inputs-set (x ∷ hs) zero h z e = ap (λ (y : HeldInput). y.input ∷ inputs_of hs) (sym (same_Some _ _ (sym e)))
inputs-set (x ∷ hs) (suc k) h z e = ap (λ (is : List Input). x.input ∷ is) (inputs-set hs k h z e)

pub set-held : (hs hs' : List HeldInput) (k : ℕ) (h : HeldInput) (z : ℤ) → hs' ≡ set hs k (record { input = h.input; setting = z }) → Some h ≡ slice_get hs k
    → (inputs_of hs' ≡ inputs_of hs) × (settings_of hs' ≡ set (settings_of hs) k z)
set-held hs hs' k h z e at =
    (ap inputs_of e ∙ inputs-set hs k h z at, ap settings_of e ∙ map-set (λ (y : HeldInput). y.setting) hs k (record { input = h.input; setting = z }))
