-- The words of a line, and a word that is a number and a colon. Assumes nothing.
use Rattle.std.specs.Prelude.{◌≡◌, ℕ, ◌-◌, ◌<◌, Bool, true, false, ◌⊎◌, List, [], ◌∷◌, ◌++◌, map, length, take, slice_index}
use Rattle.std.specs.Borrow.{Bor}
use Rattle.std.specs.Char.{is_whitespace, is_not_whitespace}
use Rattle.std.specs.Str.{NoCharPasses, EmptyOrStartsWithPassing}
use Rattle.notation.specs.Numbers.{IsNumber}

-- the word without its last byte
abbrev pub without_last : List ℕ → List ℕ
without_last word = take (length word - 1) word

-- a number, and a colon behind it
abbrev pub IsNumbered : List ℕ → Type 0
IsNumbered word = (word ≡ without_last word ++ (58 ∷ [])) × IsNumber (without_last word)

-- the text is blanks or nothing, the word, and the rest, which is empty or begins with a blank
pub record BeginsWith (text word rest : List ℕ) : Type 0 where
  pub gap : List ℕ
  pub split : text ≡ gap ++ (word ++ rest)
  pub nonempty : 0 < length word
  pub blank : NoCharPasses is_not_whitespace gap
  pub whole : NoCharPasses is_whitespace word
  pub apart : (more : List ℕ) × EmptyOrStartsWithPassing is_whitespace rest more

-- the word begins the comment: a `#` alone, or where it is the line's first word, any that begins with a `#`
abbrev pub BeginsComment : Bool → List ℕ → Type 0
BeginsComment true word = slice_index word 0 ≡ 35
BeginsComment false word = word ≡ 35 ∷ []

-- the words of the text before its comment, or all where it has none; `first` says that the text begins the line
abbrev pub AreWords : Bool → List ℕ → List (List ℕ) → Type 0
AreWords first text [] = NoCharPasses is_not_whitespace text ⊎ ((word : List ℕ) × (rest : List ℕ) × BeginsWith text word rest × BeginsComment first word)
AreWords first text (word ∷ words) = (rest : List ℕ) × BeginsWith text word rest × ¬ (BeginsComment first word) × AreWords false rest words

-- the words of the line before its comment
abbrev pub AreWordsOf : List ℕ → List (Bor (List ℕ)) → Type 0
AreWordsOf line words = AreWords true line (map (λ w. w.now) words)
