-- Kinds of inputs, inputs and outcomes in words, as the bytes of a text. Assumes nothing.
use Rattle.std.specs.Prelude.{ℕ, List, ◌++◌, codes, decimal}
use Rattle.std.specs.Fmt.{signed_decimal}
use Rattle.number.specs.Signs.{trap_word}
use Rattle.machine.specs.declared.Input.{Input}
use Rattle.machine.specs.declared.InputKind.{InputKind}
use Rattle.machine.specs.declared.InputKind.TheVariants.{Reading, Setting}
use Rattle.machine.specs.declared.states.Outcome.{Outcome}
use Rattle.machine.specs.declared.states.Outcome.TheVariants.{At, Ended, Trapped}

abbrev pub kind_word : InputKind → List ℕ
kind_word Reading = codes "reading"
kind_word Setting = codes "setting"

-- the kind and the set, as in "reading -5..10"
abbrev pub input_words : Input → List ℕ
input_words i = kind_word i.kind ++ (codes " " ++ (signed_decimal i.lo ++ (codes ".." ++ signed_decimal i.hi)))

abbrev pub outcome_words : Outcome → List ℕ
outcome_words (At place) = codes "at " ++ decimal place
outcome_words Ended = codes "ended"
outcome_words (Trapped trap place) = codes "trap " ++ (trap_word trap ++ (codes " " ++ decimal place))
