use Rattle.std.proofs.Common.{rules, ◌∙◌, slice_index}
use Rattle.machine.proofs.KindRead.{kind_by_tests}
use Rattle.sheet.proofs.inputs.read_input.Goals as goal

pub returns : goal.returns
returns c =
    let k = c.try_from.ensures.value ∙ kind_by_tests (slice_index c.args.bytes.now 0) _ in
    search rules
