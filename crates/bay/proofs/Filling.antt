-- A table filled one element after another. Assumes nothing.
use Rattle.std.proofs.Common.{◌≡◌, ℕ, ◌+◌, ◌<◌, List, [], ◌∷◌, ◌++◌, map, sym, ap, ◌∙◌, ap₂, arith}
use Rattle.std.proofs.lemmas.List.FromFn.{get_or-map-range_with_len, map-range_with_len_more}
use Rattle.std.proofs.lemmas.List.{map_push}
use Rattle.std.specs.List.{range_with_len}
use Rattle.scan.specs.Scan.{chunk}
use Rattle.sheet.specs.Inputs.{input_in}
use Rattle.sheet.specs.Parts.{Parts}
use Rattle.rules.specs.Tables.{routine_of}
use Rattle.rules.specs.Ways.{input_on}

module _ {A : Type 0} (f : ℕ → A) (n : ℕ) where
  pub filled_more : (held held' : List A) (x : A) → held ≡ map f (range_with_len 0 n) → held' ≡ held ++ x ∷ [] → x ≡ f n → held' ≡ map f (range_with_len 0 (n + 1))
  filled_more held held' x before pushed is =
      pushed ∙ ap₂ (λ (xs : List A) (y : A). xs ++ y ∷ []) before is ∙ sym (map-range_with_len_more f 0 n n (omega arith))

  pub mapped-more : {B : Type 0} (g : A → B) (held held' : List B) (x : A) → held ≡ map g (map f (range_with_len 0 n)) → held' ≡ held ++ g x ∷ [] → x ≡ f n
      → held' ≡ map g (map f (range_with_len 0 (n + 1)))
  mapped-more {B} g held held' x before pushed is =
      pushed ∙ ap₂ (λ (xs : List B) (y : B). xs ++ y ∷ []) before (ap g is)
      ∙ sym (ap (map g) (map-range_with_len_more f 0 n n (omega arith)) ∙ map_push g (map f (range_with_len 0 n)) (f n))

pub input-here : (s : Parts) (i : ℕ) → i < s.input_count → input_on (routine_of s).inputs i ≡ input_in (chunk 9 i s.inputs.bytes)
input-here s i h = get_or-map-range_with_len (λ j. input_in (chunk 9 j s.inputs.bytes)) 0 s.input_count i i _ h (omega arith)
