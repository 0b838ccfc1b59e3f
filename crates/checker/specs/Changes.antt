-- The values on a way, by what it changes. Assumes nothing.
use Rattle.std.specs.Prelude.{◌≡◌, ℕ, ◌<◌, Bool, true, ◌⊎◌}
use Rattle.domain.specs.Model.{Ops}
use Rattle.rules.specs.Checks.{all_below, covered}
use Rattle.rules.specs.Ways.{changed}
use Rattle.checker.specs.Grids.{routine_in, claims_in}
use Rattle.checker.specs.declared.changes.Change.{Change}
use Rattle.checker.specs.declared.changes.Change.TheVariants.{Nothing, One, Two}
use Rattle.checker.specs.declared.changes.Way.{Way}

abbrev pub after : {V : Type 0} → (ℕ → V) → Change V → ℕ → V
after cells Nothing y = cells y
after cells (One x v) y = changed cells x v y
after cells (Two a v b w) y = changed (changed cells a v) b w y

-- what the variables may be on a way
abbrev pub on_way : {V : Type 0} → Ops V → Way V → ℕ → V
on_way o w = after ((claims_in o w.from.grid.now).cell w.from.place) w.change

-- the entry that a way leads to covers variable x, as the way changes it
abbrev pub covers : {V : Type 0} → Ops V → Way V → ℕ → Bool
covers o w x = covered o (routine_in w.from.grid.now) (claims_in o w.from.grid.now) w.next (on_way o w) x

-- a variable that a way changes, and one that it leaves as it is
abbrev pub Touched : {V : Type 0} → Change V → ℕ → Type 0
Touched Nothing y = ⊥
Touched (One x v) y = y ≡ x
Touched (Two a v b w) y = (y ≡ a) ⊎ (y ≡ b)

abbrev pub Untouched : {V : Type 0} → Change V → ℕ → Type 0
Untouched change y = Touched change y → ⊥

-- the entry that a way leads to covers each variable that the way changes
abbrev pub ChangesCovered : {V : Type 0} → Ops V → Way V → Type 0
ChangesCovered o w = (i : ℕ) → i < w.from.grid.now.sheet.variables → Touched w.change i → covers o w i ≡ true

-- the entry that a way leads to is present, and covers every variable as the way changes it
abbrev pub LandsWell : {V : Type 0} → Ops V → Way V → Type 0
LandsWell o w =
    ((claims_in o w.from.grid.now).present w.next ≡ true) × (all_below (covers o w) w.from.grid.now.sheet.variables ≡ true)
