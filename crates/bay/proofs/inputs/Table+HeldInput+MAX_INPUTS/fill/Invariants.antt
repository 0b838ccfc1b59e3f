use Rattle.std.proofs.Common.{◌≡◌, map}
use Rattle.std.specs.List.{range_with_len}
use Rattle.scan.specs.Scan.{chunk}
use Rattle.sheet.specs.Inputs.{input_in}
use Rattle.bay.specs.Tables.{held_inputs, held_settings}
use Rattle.bay.proofs.inputs.Table+HeldInput+MAX_INPUTS.fill.Given as goal

abbrev pub invariant-loop-number : goal.invariant-loop-number
invariant-loop-number l =
    (held_inputs l.self ≡ map (λ i. input_in (chunk 9 i l.sheet.inputs.bytes.now)) (range_with_len 0 l.number))
    × (held_settings l.self ≡ map (λ i. i.lo) (map (λ i. input_in (chunk 9 i l.sheet.inputs.bytes.now)) (range_with_len 0 l.number)))
