-- The three counts are zero. Assumes nothing.
use Rattle.std.proofs.Common.{◌≡◌, ℕ, List, [], Ok, Result, sym, refl, ap, ◌∙◌, arith}
use Rattle.sheet.specs.Sheets.{sheet_of}
use Rattle.domain.specs.Carrier.{Dom, Lawful}
use Rattle.layers.specs.Piles.{dom_of}
use Rattle.layers.proofs.PileLaws.{pile-lawful}
use Rattle.rules.specs.Faults.{Fault}
use Rattle.rules.specs.Tables.{verdict_of}
use Rattle.rules.proofs.Sheets.{taken-is-safe}
use Rattle.widening.proofs.Paired.{pairing}
use Rattle.bay.specs.Calls
use Rattle.bay.specs.Calls.{Call}
use Rattle.bay.specs.Model.{View}
use Rattle.bay.specs.Stands
use Rattle.bay.specs.Stands.{Asked, offer_in, call_of, traps_in, Succession, none, after, NeverTraps}
use Rattle.bay.proofs.Kept.{Sound, Judges, fine, nothing-sound}

-- how an offer judges, and what it offers
abbrev judging : Call → List ℕ → Result ℕ Fault
judging (Calls.offer judge bs) = judge
judging Calls.begin = λ _. Ok 0
judging (Calls.change k z) = λ _. Ok 0
judging (Calls.step z) = λ _. Ok 0
judging Calls.stop = λ _. Ok 0
judging (Calls.show x) = λ _. Ok 0

abbrev offering : Call → List ℕ
offering (Calls.offer judge bs) = bs
offering Calls.begin = []
offering (Calls.change k z) = []
offering (Calls.step z) = []
offering Calls.stop = []
offering (Calls.show x) = []

abbrev is_offer : Call → ℕ
is_offer (Calls.offer judge bs) = 1
is_offer Calls.begin = 0
is_offer (Calls.change k z) = 0
is_offer (Calls.step z) = 0
is_offer Calls.stop = 0
is_offer (Calls.show x) = 0

-- a call that is no offer judges nothing
no-offer : (c : Call) → is_offer c ≡ 0 → Judges c
no-offer c e judge bs n s ec _ _ = let z : ◌≡◌ {A = ℕ} 0 1 = sym e ∙ ap is_offer ec in absurd (omega arith)

module _ (doms : ℕ → Dom) (lawful : (i : ℕ) → Lawful (doms i)) where
  judges : (c : Asked) → Judges (call_of doms c)
  judges (offer_in pile bytes all) = λ judge bs n s ec judged read.
      let same : bytes ≡ bs = ap offering ec in
      let taken : verdict_of (dom_of doms pile).ops bytes ≡ Ok n =
      ap (λ (c : Call). judging c bytes) ec ∙ ap judge same ∙ judged in
      (taken-is-safe (dom_of doms pile) (pile-lawful doms lawful pile) bytes n s all (ap sheet_of same ∙ read) taken).1.untrapped
  judges Asked.start = no-offer Calls.begin refl
  judges (Asked.set k z) = no-offer (Calls.change k z) refl
  judges (Asked.step z) = no-offer (Calls.step z) refl
  judges Asked.stop = no-offer Calls.stop refl
  judges (Asked.show x) = no-offer (Calls.show x) refl

  -- along a succession of calls every bay is sound, and the count stays zero
  along : (v : View) (n : ℕ) → Succession doms v n → (n ≡ 0) × Sound v
  along v n none = (refl, nothing-sound)
  along v n (after {v = w} {n = m} {a = a} before c happens) =
      let so_far = along w m before in
      let now = fine (judges c) so_far.1 happens in
      (omega (arith, so_far.0, now.quiet), now.sound)

  pub standing : Stands.Stands doms
  standing = record {
    safe = λ pile. taken-is-safe (dom_of doms pile) (pile-lawful doms lawful pile);
    untrapped = λ v n run. (along v n run).0;
    pairing = λ first second. pairing (dom_of doms first) (dom_of doms second) (pile-lawful doms lawful first) (pile-lawful doms lawful second);
  }
