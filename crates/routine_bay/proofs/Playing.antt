-- One call more of a list that is played. Assumes nothing.
use Rattle.std.proofs.Common.{◌≡◌, ℕ, ◌+◌, ◌<◌, ◌≤◌, List, [], length, take, drop, set, Option, sym, ap, ◌∙◌, subst, subst₂, inr, arith}
use Rattle.std.proofs.lemmas.List.{take_more_set, drop-set-lt, drop-drop, take_all, drop_all}
use Rattle.bay.specs.Calls as Calls
use Rattle.bay.specs.Model.{View, nothing}
use Rattle.routine_bay.specs.Plays.{Performs, Played, none, one_more, Plays}
use Rattle.routine_bay.specs.Records.{asked, Reads}
use Rattle.routine_bay.specs.declared.records.Call.{Call}

pub none-at : (calls : List ℕ) (v : View) → v ≡ nothing → Played calls v calls []
none-at calls v e = subst (λ (u : View). Played calls u calls []) (sym e) none

-- a call and what is left behind it; its word is written behind those before it
pub more-at : (calls : List ℕ) (v v' : View) (rest words tail : List ℕ) (i word : ℕ) (call : Call) → Played calls v rest (take i words)
    → Reads rest call tail → Performs (asked call) v word v' → i < length words → Played calls v' tail (take (i + 1) (set words i word))
more-at calls v v' rest words tail i word call before reads performs room =
    let (r, here, one, left) = reads in
    subst₂ (λ (bs ws : List ℕ). Played calls v' bs ws) (sym left) (sym (take_more_set words i word room))
    (one_more v v' rest (take i words) word r before here (subst (λ (c : Option Calls.Call). Performs c v word v') one performs))

-- the words behind it are as they were
pub others-at : (words first : List ℕ) (i word : ℕ) → drop i words ≡ drop i first → drop (i + 1) (set words i word) ≡ drop (i + 1) first
others-at words first i word same =
    drop-set-lt (i + 1) words i word (omega arith) ∙ sym (drop-drop 1 i words) ∙ ap (drop 1) same ∙ drop-drop 1 i first

-- no more room: every word tells an answer
pub full_at : (calls : List ℕ) (v : View) (rest words first : List ℕ) (i : ℕ) → Played calls v rest (take i words) → length words ≡ length first → length first ≤ i
    → Plays calls first words (length words)
full_at calls v rest words first i played long room = record {
  view = v;
  rest = rest;
  played = subst (λ (ws : List ℕ). Played calls v rest ws) (take_all i words (omega (arith, long, room)) ∙ sym (take_all (length words) words (omega arith))) played;
  over = inr long;
  others = drop_all (length words) words (omega arith) ∙ sym (drop_all (length words) first (omega (arith, long)));
}
