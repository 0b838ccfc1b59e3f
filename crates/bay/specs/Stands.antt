-- What holds of every bay, in the words of its users. Assumes nothing.
use Rattle.std.specs.Prelude.{◌≡◌, ℕ, ◌+◌, List, ℤ}
use Rattle.sheet.specs.Bytes.{AllBytes}
use Rattle.domain.specs.Carrier.{Dom}
use Rattle.layers.specs.Piles.{Pile, dom_of}
use Rattle.rules.specs.Safety.{TakenIsSafe}
use Rattle.rules.specs.Tables.{verdict_of}
use Rattle.widening.specs.Pairing.{PairingOf}
use Rattle.bay.specs.Calls
use Rattle.bay.specs.Calls.{Call, Answer, taken, done, moved, ended, trapped, shown, refused, Happens}
use Rattle.bay.specs.Model.{View, nothing}

-- a call as its user makes it: an offer is of a sheet, a list of bytes, in a pile
pub data Asked : Type 0 where
  offer_in : Pile → (bs : List ℕ) → AllBytes bs → Asked
  start : Asked
  set : ℕ → ℤ → Asked
  step : ℤ → Asked
  stop : Asked
  show : ℕ → Asked

abbrev pub call_of : (ℕ → Dom) → Asked → Call
call_of doms (offer_in pile bs bytes) = Calls.offer (verdict_of (dom_of doms pile).ops) bs
call_of doms Asked.start = Calls.begin
call_of doms (Asked.set k z) = Calls.change k z
call_of doms (Asked.step z) = Calls.step z
call_of doms Asked.stop = Calls.stop
call_of doms (Asked.show x) = Calls.show x

-- the traps in one answer
abbrev pub traps_in : Answer → ℕ
traps_in (taken n) = 0
traps_in done = 0
traps_in (moved p) = 0
traps_in ended = 0
traps_in (trapped t p) = 1
traps_in (shown r p z) = 0
traps_in (refused r) = 0

module _ (doms : ℕ → Dom) where
  -- a succession of calls on a bay that held nothing at first, accepted or not: the bay as it is after the last of
  -- them, and how many traps have been answered so far
  pub data Succession : View → ℕ → Type 0 where
    none : Succession nothing 0
    after : {v v' : View} {n : ℕ} {a : Answer} → Succession v n → (c : Asked) → Happens v (call_of doms c) a v' → Succession v' (n + traps_in a)

  -- after each call, the count of traps answered so far is zero
  abbrev pub NeverTraps : Type 0
  NeverTraps = (v : View) (n : ℕ) → Succession v n → n ≡ 0

  -- The three counts that are zero, for every pile over the domains: of states, reachable by a routine that is
  -- taken, which its table does not describe or which trap; of traps that a bay answers; of routines that are taken
  -- in one pile and refused in its pair with another that says "anything" throughout.
  pub record Stands : Type 0 where
    pub safe : (pile : Pile) → TakenIsSafe (dom_of doms pile)
    pub untrapped : NeverTraps
    pub pairing : (first second : Pile) → PairingOf (dom_of doms first) (dom_of doms second)
