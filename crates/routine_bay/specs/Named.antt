-- What is answered in the domain that a number names. Assumes nothing.
use Rattle.std.specs.Prelude.{◌≡◌, ℕ, ◌%◌, List, Some, None, Ok, Err, Option, Result}
use Rattle.sheet.specs.declared.refusals.Refusal.{Refusal}
use Rattle.rules.specs.Faults.{Meets}
use Rattle.rules.specs.Safety.{SafeSheet}
use Rattle.rules.specs.Tables.{verdict_of}
use Rattle.catalog.specs.Domains.{dom}
use Rattle.catalog.specs.declared.names.DomainName.{DomainName}
use Rattle.routine_bay.specs.Fields.{Holds, verdict_report}

-- what is taken in a domain is a sheet whose routine is safe by its table
abbrev pub SafeIf : DomainName → List ℕ → Result ℕ Refusal → Type 0
SafeIf d bs (Ok n) = SafeSheet (dom d) bs
SafeIf d bs (Err e) = Unit {0}

-- A word tells the verdict on a sheet in a domain: it holds the four numbers of a verdict that the rules allow; and where
-- its number is 0, the sheet is taken, and its routine is safe by its table.
pub record Tells (d : DomainName) (bs : List ℕ) (word : ℕ) : Type 0 where
  pub verdict : Result ℕ Refusal
  pub allowed : Meets verdict (verdict_of (dom d).ops bs)
  pub held : Holds word (verdict_report verdict)
  pub taken : word % 256 ≡ 0 → SafeSheet (dom d) bs

-- the verdict in the domain that is named, or 255 where none is
abbrev pub Answered : Option DomainName → List ℕ → ℕ → Type 0
Answered None bs word = word ≡ 255
Answered (Some d) bs word = Tells d bs word
