-- Answers as one number of 64 bits: four fields, the lowest first. Assumes nothing.
use Rattle.std.specs.Prelude.{◌≡◌, ℕ, ◌+◌, ◌*◌, ◌/◌, ◌%◌, ◌<◌, Ok, Err, Result}
use Rattle.sheet.specs.Refusals.{numbers, report}
use Rattle.sheet.specs.declared.refusals.Refusal.{Refusal}
use Rattle.sheet.specs.declared.refusals.Report.{Report}

-- a number in bits 0 to 7, a place in bits 8 to 23, a way in bits 24 to 31, and a value in bits 32 to 63
abbrev pub fields : ℕ → ℕ → ℕ → ℕ → ℕ
fields number place way value = number % 256 + place % 65536 * 256 + way % 256 * 16777216 + value % 4294967296 * 4294967296

-- a verdict as four numbers: those of a refusal, or 0 and the number of places
abbrev pub verdict_report : Result ℕ Refusal → Report
verdict_report (Ok places) = report 0 places 0 0
verdict_report (Err e) = numbers e

-- the four numbers in one
abbrev pub packed_report : Report → ℕ
packed_report r = fields r.number r.place r.way r.variable

-- four numbers that a word of 64 bits holds, each in its field
pub record Holds (word : ℕ) (r : Report) : Type 0 where
  pub number : word % 256 ≡ r.number
  pub place : word / 256 % 65536 ≡ r.place
  pub way : word / 16777216 % 256 ≡ r.way
  pub variable : word / 4294967296 ≡ r.variable

-- each of the four numbers fits its field
pub record Small (r : Report) : Type 0 where
  pub number : r.number < 256
  pub place : r.place < 65536
  pub way : r.way < 256
  pub variable : r.variable < 4294967296
