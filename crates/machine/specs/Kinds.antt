-- The codes of the kinds of inputs. Assumes nothing.
use Rattle.std.specs.Prelude.{ℕ, List, [], ◌∷◌, Option}
use Rattle.number.specs.Codes.{nth}
use Rattle.machine.specs.declared.InputKind.{InputKind}
use Rattle.machine.specs.declared.InputKind.TheVariants.{Reading, Setting}

-- the kinds in the order of their codes 0 and 1
abbrev pub kinds : List InputKind
kinds = Reading ∷ Setting ∷ []

abbrev pub kind_coded : ℕ → Option InputKind
kind_coded code = nth kinds code

-- the code of each
abbrev pub kind_code : InputKind → ℕ
kind_code Reading = 0
kind_code Setting = 1
