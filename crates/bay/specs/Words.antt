-- What a bay shows in words, as the bytes of a text. Assumes nothing.
use Rattle.std.specs.Prelude.{ℕ, Bool, true, false, List, ◌++◌, codes, decimal}
use Rattle.std.specs.Fmt.{signed_decimal}
use Rattle.bay.specs.declared.Shown.{Shown}

-- whether the routine runs, or is held and does not
abbrev pub mode_word : Bool → List ℕ
mode_word true = codes "running"
mode_word false = codes "held"

-- the mode, the place and the value, with a space between each and the next
abbrev pub shown_words : Shown → List ℕ
shown_words s = mode_word s.running ++ (codes " " ++ (decimal s.place ++ (codes " " ++ signed_decimal s.value)))
