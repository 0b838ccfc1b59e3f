-- What the rules answer to a sheet, and which answers of the code meet them. Assumes nothing.
use Rattle.std.specs.Prelude.{◌≡◌, ℕ, Bool, true, Ok, Err, Result}
use Rattle.sheet.specs.declared.refusals.Refusal.{Refusal}
use Rattle.sheet.specs.declared.refusals.Refusal.TheVariants.{NotCovered}

-- A fault is one refusal, or, the one answer that the rules leave free, any refusal 15 of one way out of one place
-- that names a variable which is not covered there.
pub data Fault : Type 0 where
  fixed : Refusal → Fault
  uncovered : ℕ → ℕ → (ℕ → Bool) → Fault

-- the same fault of a plain refusal
abbrev pub faulty : {A : Type 0} → Result A Refusal → Result A Fault
faulty (Ok x) = Ok x
faulty (Err r) = Err (fixed r)

-- a refusal is one that the fault allows
abbrev pub Allows : Fault → Refusal → Type 0
Allows (fixed q) r = r ≡ q
Allows (uncovered place way which) r = (x : ℕ) × (r ≡ NotCovered place way x) × (which x ≡ true)

-- an answer of the code meets what the rules answer
abbrev pub Meets : {A : Type 0} → Result A Refusal → Result A Fault → Type 0
Meets (Ok x) (Ok y) = x ≡ y
Meets (Ok x) (Err f) = ⊥
Meets (Err r) (Ok y) = ⊥
Meets (Err r) (Err f) = Allows f r
