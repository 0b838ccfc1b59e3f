-- What widening a sheet into a buffer answers, and what the buffer holds afterwards. Assumes nothing.
use Rattle.std.specs.Prelude.{ℕ, ◌+◌, ◌*◌, Bool, cond, not, List, ◌++◌, length, drop, Ok, Err, Result, ◌==◌, nat_le}
use Rattle.scan.specs.Scan.{and_then, Check, unless}
use Rattle.sheet.specs.Parts.{Parts}
use Rattle.sheet.specs.Sheets.{sheet_of}
use Rattle.sheet.specs.declared.refusals.Refusal.{Refusal}
use Rattle.sheet.specs.declared.refusals.Refusal.TheVariants.{NoWidth, TableSize}
use Rattle.domain.specs.Model.{Ops}
use Rattle.layers.specs.Pairs.{pair_width}
use Rattle.widening.specs.Widened.{sheet_bytes, widened_parts}
use Rattle.widening.specs.declared.WidenError.{WidenError}
use Rattle.widening.specs.declared.WidenError.TheVariants.{Refused, Short}

-- a table is as long as its entries in cells of a width
abbrev pub table_sized : Parts → ℕ → Bool
table_sized s width = length s.table.bytes == s.places * (1 + s.variables * width)

-- where a sheet is written: from the front on, as many bytes as were answered; what is refused leaves it as it was
abbrev pub afterwards : Result ℕ WidenError → List ℕ → List ℕ → List ℕ
afterwards (Ok n) sheet out = sheet ++ drop n out
afterwards (Err e) sheet out = out

module _ {A B : Type 0} (p : Ops A) (q : Ops B) where
  -- the first domain has cells, the table is of its width, and the pair has cells
  abbrev pub widths_right : Parts → Check Refusal
  widths_right s =
      and_then (unless (not (p.width == 0)) NoWidth) (λ _.
      and_then (unless (table_sized s p.width) TableSize) (λ _.
      unless (not (pair_width p.width q.width == 0)) NoWidth))

  -- the parts of a sheet that can be widened, or the first rule that it breaks
  abbrev pub fitting : List ℕ → Result Parts Refusal
  fitting bs = and_then (sheet_of bs) (λ s. and_then (widths_right s) (λ _. Ok s))

  -- how many bytes the widened sheet has, where there is room for them
  abbrev pub sized : ℕ → Result Parts Refusal → Result ℕ WidenError
  sized room (Ok s) =
      cond (nat_le (length (sheet_bytes (widened_parts p q s))) room) (Ok (length (sheet_bytes (widened_parts p q s)))) (Err (Short (length (sheet_bytes (widened_parts p q s)))))
  sized room (Err e) = Err (Refused e)

  -- what widening a sheet into a buffer with so much room answers
  abbrev pub widen_answer : List ℕ → ℕ → Result ℕ WidenError
  widen_answer bs room = sized room (fitting bs)
