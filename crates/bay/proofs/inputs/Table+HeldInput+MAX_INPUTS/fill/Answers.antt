use Rattle.std.proofs.Common.{ℕ, [], ◌∷◌, ◌++◌, length, map, ℤ, ap, ◌∙◌, w32, SFits, arith, rules}
use Rattle.std.proofs.lemmas.Int.{to_z-of_z}
use Rattle.std.proofs.lemmas.List.{length-map, map_push}
use Rattle.std.proofs.lemmas.List.FromFn.{length-map-range_with_len}
use Rattle.scan.specs.Scan.{chunk}
use Rattle.machine.specs.declared.Input.{Input}
use Rattle.sheet.specs.Inputs.{input_in}
use Rattle.sheet.specs.Views.{seen}
use Rattle.bay.specs.Tables.{held, held_settings}
use Rattle.bay.specs.declared.inputs.HeldInput.{HeldInput}
use Rattle.bay.proofs.Filling.{filled_more, mapped-more, input-here}
use Rattle.bay.proofs.inputs.Table+HeldInput+MAX_INPUTS.fill.Goals as goal

pub push-requires : goal.push-requires
push-requires c =
    let i = c.loop-number.number in
    omega (
      arith,
      ap length c.loop-number.invariant.0,
      length-map (held c.loop-number.self) (λ (h : HeldInput). h.input),
      length-map-range_with_len (λ j. input_in (chunk 9 j c.args.sheet.now.inputs.bytes.now)) 0 i,
      c.loop-number-test.true,
      c.args.sheet.now.sound.fits.input_count,
    )

pub loop-number-preserved : goal.loop-number-preserved
loop-number-preserved c =
    let s = seen c.args.sheet.now in
    let i = c.loop-number.number in
    let f = λ (j : ℕ). input_in (chunk 9 j c.args.sheet.now.inputs.bytes.now) in
    let lo = c.input_on-input.result.lo in
    let fits : SFits w32 lo = search rules in
    let is = c.input_on-input.ensures ∙ input-here s i c.loop-number-test.true in (
      filled_more f i _ _ c.input_on-input.result c.loop-number.invariant.0
          (ap (map (λ (h : HeldInput). h.input)) c.push.ensures ∙ map_push (λ (h : HeldInput). h.input) (held c.loop-number.self) _) is,
      mapped-more f i (λ (n : Input). n.lo) _ _ c.input_on-input.result c.loop-number.invariant.1
          (ap (map (λ (h : HeldInput). h.setting)) c.push.ensures ∙ map_push (λ (h : HeldInput). h.setting) (held c.loop-number.self) _
          ∙ ap (λ (z : ℤ). held_settings c.loop-number.self ++ z ∷ []) (to_z-of_z w32 lo fits)) is,
    )
