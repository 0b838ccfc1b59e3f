-- The operations of the domain that knows nothing: its one value is "anything". Assumes nothing.
use Rattle.std.specs.Prelude.{ℕ, zero, suc, true, List, [], ◌∷◌, ℤ, Some, None, Option}
use Rattle.domain.specs.declared.unknown.Unknown.{Unknown}
use Rattle.domain.specs.Model.{Ops}

-- the one value
abbrev pub unknown : Unknown
unknown = record {}

-- its cell is the one byte 0
abbrev pub reads : List ℕ → Option Unknown
reads [] = None
reads (zero ∷ []) = Some unknown
reads (zero ∷ (b ∷ bs)) = None
reads (suc n ∷ bs) = None

abbrev pub describes : Unknown → ℤ → Type 0
describes u z = Unit {0}

abbrev pub ops : Ops Unknown
ops = record { width = 1; blank = λ _. 0; reads = reads; anything = unknown; value = λ _ _. unknown; covers = λ _ _. true; works = λ _ _ _. (unknown, true, true); narrows = λ a _ _. Some a }
