-- What is taken in one domain is taken in its pair with any other. Assumes nothing.
use Rattle.std.specs.Prelude.{◌≡◌, ℕ, ◌≢◌, List, Ok}
use Rattle.sheet.specs.Bytes.{AllBytes}
use Rattle.domain.specs.Model.{Ops}
use Rattle.domain.specs.Carrier.{Dom}
use Rattle.layers.specs.Pairs.{pair_width, pair_ops}
use Rattle.rules.specs.Tables.{verdict_of}
use Rattle.widening.specs.Widened.{widened}

-- a sheet taken in the first domain, widened, is taken in the pair, with as many places, where a pair has cells
abbrev pub Pairing : {A B : Type 0} → Ops A → Ops B → Type 0
Pairing p q =
    (bs : List ℕ) (n : ℕ) → AllBytes bs → verdict_of p bs ≡ Ok n → pair_width p.width q.width ≢ 0
    → verdict_of (pair_ops p q) (widened p q bs) ≡ Ok n

-- what is written are bytes again
abbrev pub StaysBytes : {A B : Type 0} → Ops A → Ops B → Type 0
StaysBytes p q = (bs : List ℕ) → AllBytes bs → AllBytes (widened p q bs)

abbrev pub PairingOf : Dom → Dom → Type 0
PairingOf a b = Pairing a.ops b.ops
