use Rattle.std.proofs.Common.{length, ap, ◌∙◌, arith}
use Rattle.std.proofs.lemmas.List.FromFn.{length-map-range_with_len}
use Rattle.scan.specs.Scan.{chunk}
use Rattle.sheet.specs.Rows.{row_in}
use Rattle.sheet.specs.Views.{seen}
use Rattle.checker.proofs.Reading.{row_here}
use Rattle.bay.proofs.Filling.{filled_more}
use Rattle.bay.proofs.rows.Table+Row+MAX_PLACES.fill.Goals as goal

pub push-requires : goal.push-requires
push-requires c =
    let i = c.loop-place.place in
    omega (
      arith,
      ap length c.loop-place.invariant,
      length-map-range_with_len (λ j. row_in (chunk 12 j c.args.sheet.now.rows.bytes.now)) 0 i,
      c.loop-place-test.true,
      c.args.sheet.now.sound.fits.places,
    )

pub loop-place-preserved : goal.loop-place-preserved
loop-place-preserved c =
    let s = seen c.args.sheet.now in
    let i = c.loop-place.place in
    filled_more (λ j. row_in (chunk 12 j c.args.sheet.now.rows.bytes.now)) i _ _ c.row_on.result
    c.loop-place.invariant c.push.ensures (c.row_on.ensures.value ∙ row_here s i c.loop-place-test.true)
