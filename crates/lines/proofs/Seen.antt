-- The words of a line as a loop finds them. Assumes nothing.
use Rattle.std.proofs.Common.{◌≡◌, ℕ, ◌<◌, Bool, true, false, List, [], ◌∷◌, ◌++◌, map, get_or, length, inl, inr, refl, sym, ap, subst, append_assoc, append-nil, Bor}
use Rattle.std.proofs.lemmas.Bool.{false≢true}
use Rattle.std.proofs.lemmas.List.{map-append}
use Rattle.std.specs.Char.{is_whitespace, is_not_whitespace}
use Rattle.std.specs.Str.{NoCharPasses, EmptyOrStartsWithPassing}
use Rattle.lines.specs.Words.{BeginsWith, BeginsComment, AreWords}

-- what `split_whitespace` says of an item
pub begins-from_item : (text word rest : List ℕ) → (gap : List ℕ) × (text ≡ gap ++ (word ++ rest)) × (0 < length word) × NoCharPasses is_not_whitespace gap × NoCharPasses is_whitespace word × ((more : List ℕ) × EmptyOrStartsWithPassing is_whitespace rest more) → BeginsWith text word rest
begins-from_item text word rest item = record { gap = item.0; split = item.1; nonempty = item.2; blank = item.3; whole = item.4; apart = item.5 }

-- a `#` alone begins the comment wherever it stands
pub comment-alone : (first : Bool) (word : List ℕ) → word ≡ 35 ∷ [] → BeginsComment first word
comment-alone true word e = ap (λ w. get_or w 0 0) e
comment-alone false word e = e

pub comment-first : (first : Bool) (word : List ℕ) → first ≡ true → get_or word 0 0 ≡ 35 → BeginsComment first word
comment-first true word e h = h
comment-first false word e h = absurd (false≢true e)

pub no-comment : (first : Bool) (word : List ℕ) → ¬ (word ≡ 35 ∷ []) → (first ≡ true → ¬ (get_or word 0 0 ≡ 35)) → ¬ BeginsComment first word
no-comment true word alone at_start = at_start refl
no-comment false word alone at_start = alone

-- the words seen, and then those of the text that is left, are the words of the line
abbrev pub Seen : List ℕ → List (List ℕ) → Bool → List ℕ → Type 0
Seen line seen first text = (more : List (List ℕ)) → AreWords first text more → AreWords true line (seen ++ more)

module _ (line : List ℕ) (seen : List (List ℕ)) (first : Bool) (text : List ℕ) (h : Seen line seen first text) where
  pub seen-all : NoCharPasses is_not_whitespace text → AreWords true line seen
  seen-all blank = subst (AreWords true line) (append-nil seen) (h [] (inl blank))

  pub seen-comment : (word rest : List ℕ) → BeginsWith text word rest → BeginsComment first word → AreWords true line seen
  seen-comment word rest begins comment = subst (AreWords true line) (append-nil seen) (h [] (inr (word, rest, begins, comment)))

  pub seen-next : (word rest : List ℕ) → BeginsWith text word rest → ¬ BeginsComment first word → Seen line (seen ++ (word ∷ [])) false rest
  seen-next word rest begins not more words = subst (AreWords true line) (sym (append_assoc seen (word ∷ []) more)) (h (word ∷ more) (rest, begins, not, words))

-- the same, where the words are references, and a flag says whether there are none
pub seen-pushed : (line : List ℕ) (old new : List (Bor (List ℕ))) (word : Bor (List ℕ)) (flag : Bool) (rest : List ℕ) → new ≡ old ++ (word ∷ []) → flag ≡ false → Seen line (map (λ w. w.now) old ++ (word.now ∷ [])) false rest → Seen line (map (λ w. w.now) new) flag rest
seen-pushed line old new word flag rest e f h =
    rw (f, e, map-append (λ w. w.now) old (word ∷ [])) h
