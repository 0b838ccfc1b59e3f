-- The set of an input. Assumes nothing.
use Rattle.std.specs.Prelude.{ℕ, zero, suc, Bool, false, ◌&&◌, List, [], ◌∷◌, ℤ, int_le}
use Rattle.number.specs.Exact.{Int32}
use Rattle.machine.specs.declared.Input.{Input}

-- the input may give z
abbrev pub allows : Input → ℤ → Bool
allows i z = int_le i.lo z && int_le z i.hi

-- input k of a routine may give z; an input that is not there gives nothing
abbrev pub may_give : List Input → ℕ → ℤ → Bool
may_give [] k z = false
may_give (i ∷ is) zero z = allows i z
may_give (i ∷ is) (suc k) z = may_give is k z

-- the ends of each set are integers of 32 bits
abbrev pub EndsFit : List Input → Type 0
EndsFit [] = Unit {0}
EndsFit (i ∷ is) = (Int32 i.lo × Int32 i.hi) × EndsFit is
