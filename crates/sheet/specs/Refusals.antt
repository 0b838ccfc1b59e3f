-- Each refusal with its four numbers: rule, place, way, variable. Assumes nothing.
use Rattle.std.specs.Prelude.{ℕ}
use Rattle.sheet.specs.declared.refusals.Refusal.{Refusal}
use Rattle.sheet.specs.declared.refusals.Refusal.TheVariants.{SheetSize, HeadByte, PartExtent, PartSize, InputRecord, RowByte, NoWidth, TableSize, EntryFlag, CellUnreadable, StartAbsent, StartUncovered, ZeroWarning, RangeWarning, EntryAbsent, NotCovered, NoSetting, SettingOutside, ReadingOutside, NoVariable, NothingHeld, Running, NotRunning}
use Rattle.sheet.specs.declared.refusals.Report.{Report}

abbrev pub report : ℕ → ℕ → ℕ → ℕ → Report
report number place way variable = record { number = number; place = place; way = way; variable = variable }

abbrev pub numbers : Refusal → Report
numbers SheetSize = report 1 0 0 0
numbers (HeadByte byte) = report 2 byte 0 0
numbers (PartExtent part) = report 3 part 0 0
numbers (PartSize part) = report 4 part 0 0
numbers (InputRecord input) = report 5 input 0 0
numbers (RowByte place byte) = report 6 place byte 0
numbers NoWidth = report 7 0 0 0
numbers TableSize = report 8 0 0 0
numbers (EntryFlag place) = report 9 place 0 0
numbers (CellUnreadable place variable) = report 10 place 0 variable
numbers StartAbsent = report 11 0 0 16
numbers (StartUncovered variable) = report 11 0 0 variable
numbers (ZeroWarning place) = report 12 place 0 0
numbers (RangeWarning place) = report 13 place 0 0
numbers (EntryAbsent place way) = report 14 place way 0
numbers (NotCovered place way variable) = report 15 place way variable
numbers NoSetting = report 16 0 0 0
numbers SettingOutside = report 17 0 0 0
numbers ReadingOutside = report 18 0 0 0
numbers NoVariable = report 19 0 0 0
numbers NothingHeld = report 21 0 0 0
numbers Running = report 22 0 0 0
numbers NotRunning = report 23 0 0 0
