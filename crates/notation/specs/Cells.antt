-- The bytes of the cell that holds a value. Assumes nothing.
use Rattle.std.specs.Prelude.{◌≡◌, ℕ, ◌/◌, ◌%◌, cond, ◌≢◌, List, ◌∷◌, ◌++◌, Some}
use Rattle.sheet.specs.Format.{integer_bytes}
use Rattle.domain.specs.Model.{Ops}
use Rattle.layers.specs.declared.nonzero.Nonzero.{Nonzero}
use Rattle.layers.specs.declared.pair.Pair.{Pair}
use Rattle.span.specs.declared.Span.{Span}
use Rattle.stride.specs.declared.value.Stride.{Stride}

-- the cell reads as the value, where the domain has cells
abbrev pub Holds : {V : Type 0} → Ops V → List ℕ → V → Type 0
Holds o cell v = o.width ≢ 0 → o.reads cell ≡ Some v

-- the ends
abbrev pub span_cell : Span → List ℕ
span_cell s = integer_bytes s.lo ++ integer_bytes s.hi

-- the modulus in two bytes, the lowest first, and the remainder
abbrev pub stride_cell : Stride → List ℕ
stride_cell s = (s.modulus % 256) ∷ (s.modulus / 256 % 256) ∷ integer_bytes s.remainder

-- the mark, and the cell below
abbrev pub marked_cell : {A : Type 0} → (A → List ℕ) → Nonzero A → List ℕ
marked_cell cell v = cond v.marked 1 0 ∷ cell v.inner

-- the first cell, and then the second
abbrev pub pair_cell : {A B : Type 0} → (A → List ℕ) → (B → List ℕ) → Pair A B → List ℕ
pair_cell cell other v = cell v.first ++ other v.second
