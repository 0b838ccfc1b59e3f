use Rattle.std.proofs.Common.{subst, ap, ◌∙◌, arith}
use Rattle.sheet.specs.Bytes.{AllBytes}
use Rattle.sheet.specs.Rows.{row_in}
use Rattle.sheet.specs.Views.{laid}
use Rattle.sheet.proofs.Records.{record-at}
use Rattle.sheet.proofs.views.Layout.stated_row.Goals as goal

pub returns : goal.returns
returns c =
    let s = laid c.args.self.now in
    let record-here = record-at 12 c.args.place s.rows.bytes _ c.as_chunks.ensures.front (omega (arith, c.args.self.now.fits.rows, c.requires)) in
    record { value = c.decode_row.ensures.value ∙ ap row_in record-here; bytes = subst AllBytes record-here c.decode_row.ensures.bytes }
