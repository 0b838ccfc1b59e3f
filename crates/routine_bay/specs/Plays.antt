-- What playing a list of calls on a bay answers. Assumes nothing.
use Rattle.std.specs.Prelude.{◌≡◌, ℕ, cond, ◌⊎◌, List, [], ◌∷◌, ◌++◌, length, take, drop, Some, None, Option}
use Rattle.std.specs.Int.{w32}
use Rattle.std.proofs.Common.{of_z}
use Rattle.number.specs.declared.Trap.{Trap}
use Rattle.number.specs.declared.Trap.TheVariants.{Zero, Range}
use Rattle.sheet.specs.Refusals.{numbers}
use Rattle.bay.specs.Calls as Calls
use Rattle.bay.specs.Calls.{Call, Answer, Happens}
use Rattle.bay.specs.Model.{View, nothing}
use Rattle.bay.specs.Stands.{traps_in}
use Rattle.routine_bay.specs.Fields.{fields, packed_report}
use Rattle.routine_bay.specs.Records.{Record, front, call_of, sheet_behind, rest_behind}

-- a trap by its number
abbrev pub trap_code : Trap → ℕ
trap_code Zero = 2
trap_code Range = 3

-- The word that stands for an answer. Taken: the number of places. A step: the place, and how it came out, 0 at a place,
-- 1 ended, 2 or 3 a trap. Shown: the place, whether it runs, and the value in two's complement. Refused: its four numbers.
abbrev pub word_of : Answer → ℕ
word_of (Calls.taken n) = fields 0 n 0 0
word_of Calls.done = 0
word_of (Calls.moved p) = fields 0 p 0 0
word_of Calls.ended = fields 0 0 1 0
word_of (Calls.trapped t p) = fields 0 p (trap_code t) 0
word_of (Calls.shown runs p z) = fields 0 p (cond runs 1 0) (of_z w32 z)
word_of (Calls.refused e) = packed_report (numbers e)

-- a call on a bay by the rules, whose answer is no trap, told by a word; one that offers in no domain is told by 255 and
-- changes nothing
abbrev pub Performs : Option Call → View → ℕ → View → Type 0
Performs None v word v' = (word ≡ 255) × (v' ≡ v)
Performs (Some c) v word v' = (a : Answer) × Happens v c a v' × (traps_in a ≡ 0) × (word ≡ word_of a)

-- calls of a list played one after another on a bay that held nothing at first: the bay after the last of them, what is
-- left of the list, and the words that told the answers
pub data Played (calls : List ℕ) : View → List ℕ → List ℕ → Type 0 where
  none : Played calls nothing calls []
  one_more : (v v' : View) (rest words : List ℕ) (word : ℕ) (r : Record) → Played calls v rest words → front rest ≡ Some r
      → Performs (call_of r (sheet_behind r rest)) v word v' → Played calls v' (rest_behind r rest) (words ++ word ∷ [])

-- A list of calls was played into a buffer: its first n words tell the answers, the others are as they were, and there
-- are no more calls or there is no more room.
pub record Plays (calls before after : List ℕ) (n : ℕ) : Type 0 where
  pub view : View
  pub rest : List ℕ
  pub played : Played calls view rest (take n after)
  pub over : (front rest ≡ None) ⊎ (n ≡ length before)
  pub others : drop n after ≡ drop n before
