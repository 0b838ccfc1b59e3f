use Rattle.std.proofs.Common.{◌∙◌, sym, w32, to_z, of_z, rules}
use Rattle.std.proofs.lemmas.Int.{to_z-of_z}
use Rattle.std.proofs.lemmas.Bool.{both_ways, eq-eqb}
use Rattle.stride.specs.Made.{some-made, made-breaks, breaks}
use Rattle.stride.proofs.value.Stride.new.Goals.{then-modulus-eq0, else-modulus-eq0}
use Rattle.stride.proofs.value.Stride.new.Goals as goal

pub returns-then-remainder-from : goal.returns-then-remainder-from
returns-then-remainder-from c = some-made c.args.modulus c.args.remainder (to_z w32 (of_z w32 c.args.remainder)) _ (to_z-of_z w32 c.args.remainder c.ranges.remainder)

pub returns-else-remainder-from : goal.returns-else-remainder-from
returns-else-remainder-from c =
    let m = c.args.modulus in
    let r = c.args.remainder in
    elim c.if-modulus-eq0.branch [
      | then-modulus-eq0 w ↦ absurd (both_ways _ c.if-remainder-from.false (w.value-is ∙ eq-eqb m 0 w.if-modulus-eq0.true))
      | else-modulus-eq0 w ↦ sym (made-breaks m r (breaks m r (to_z w32 (of_z w32 r)) (to_z w32 (of_z w32 w.from.result)) (to_z-of_z w32 r c.ranges.remainder) (to_z-of_z w32 w.from.result (search rules) ∙ w.from.ensures) w.if-modulus-eq0.false (sym w.value-is ∙ c.if-remainder-from.false)))
    ]
