-- What the program answers: the verdict in spans, and a refusal of what is longer than it reads. Assumes nothing.
use Rattle.std.specs.Prelude.{ℕ, cond, List, length, Err, Result, nat_lt}
use Rattle.sheet.specs.declared.refusals.Refusal.TheVariants.{SheetSize}
use Rattle.span.specs.Model.{span_ops}
use Rattle.rules.specs.Faults.{Fault, fixed}
use Rattle.rules.specs.Tables.{verdict_of}

abbrev pub printed : List ℕ → Result ℕ Fault
printed bs = cond (nat_lt 65536 (length bs)) (Err (fixed SheetSize)) (verdict_of span_ops bs)
