-- The word of an answer tells the verdict. Assumes nothing.
use Rattle.std.proofs.Common.{◌≡◌, ℕ, List, Ok, Err, Result, sym, ◌∙◌, arith}
use Rattle.sheet.specs.Refusals.{numbers}
use Rattle.sheet.specs.declared.refusals.Refusal.{Refusal}
use Rattle.sheet.specs.declared.refusals.Refusal.TheVariants.{SheetSize, HeadByte, PartExtent, PartSize, InputRecord, RowByte, NoWidth, TableSize, EntryFlag, CellUnreadable, StartAbsent, StartUncovered, ZeroWarning, RangeWarning, EntryAbsent, NotCovered, NoSetting, SettingOutside, ReadingOutside, NoVariable, NothingHeld, Running, NotRunning}
use Rattle.rules.specs.Faults.{Meets}
use Rattle.rules.specs.Safety.{SafeSheet}
use Rattle.rules.specs.Tables.{verdict_of}
use Rattle.routine_bay.specs.Fields.{packed_report, verdict_report}
use Rattle.catalog.specs.Domains.{dom}
use Rattle.routine_bay.specs.Named.{SafeIf, Tells}
use Rattle.catalog.specs.declared.names.DomainName.{DomainName}
use Rattle.routine_bay.proofs.Bounds.{verdict-small}
use Rattle.routine_bay.proofs.Packing.{holds_of}

-- no refusal has the number 0
numbered : (e : Refusal) → (numbers e).number ≡ 0 → ⊥
numbered SheetSize h = omega arith
numbered (HeadByte byte) h = omega arith
numbered (PartExtent part) h = omega arith
numbered (PartSize part) h = omega arith
numbered (InputRecord input) h = omega arith
numbered (RowByte place byte) h = omega arith
numbered NoWidth h = omega arith
numbered TableSize h = omega arith
numbered (EntryFlag place) h = omega arith
numbered (CellUnreadable place variable) h = omega arith
numbered StartAbsent h = omega arith
numbered (StartUncovered variable) h = omega arith
numbered (ZeroWarning place) h = omega arith
numbered (RangeWarning place) h = omega arith
numbered (EntryAbsent place way) h = omega arith
numbered (NotCovered place way variable) h = omega arith
numbered NoSetting h = omega arith
numbered SettingOutside h = omega arith
numbered ReadingOutside h = omega arith
numbered NoVariable h = omega arith
numbered NothingHeld h = omega arith
numbered Running h = omega arith
numbered NotRunning h = omega arith

safe_at : (d : DomainName) (bs : List ℕ) (r : Result ℕ Refusal) → SafeIf d bs r → (verdict_report r).number ≡ 0 → SafeSheet (dom d) bs
safe_at d bs (Ok n) safe zero = safe
safe_at d bs (Err e) safe zero = absurd (numbered e zero)

pub tells : (d : DomainName) (bs : List ℕ) (r : Result ℕ Refusal) → Meets r (verdict_of (dom d).ops bs) → SafeIf d bs r → Tells d bs (packed_report (verdict_report r))
tells d bs r meets safe =
    let held = holds_of (verdict_report r) (verdict-small (dom d).ops bs r meets) in
    record { verdict = r; allowed = meets; held = held; taken = λ zero. safe_at d bs r safe (sym held.number ∙ zero) }
