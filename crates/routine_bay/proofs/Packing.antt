-- Four numbers that fit their fields are read back from the word. Assumes nothing.
use Rattle.std.proofs.Common.{arith}
use Rattle.sheet.specs.declared.refusals.Report.{Report}
use Rattle.routine_bay.specs.Fields.{packed_report, Holds, Small}

pub holds_of : (r : Report) → Small r → Holds (packed_report r) r
holds_of r small =
    let a = small.number in
    let b = small.place in
    let c = small.way in
    let d = small.variable in
    record { number = omega arith; place = omega arith; way = omega arith; variable = omega arith }
