use Rattle.std.proofs.Common.{subst, sym, ap, ◌∙◌, Ok}
use Rattle.scan.specs.Scan.{chunk}
use Rattle.sheet.specs.Bytes.{AllBytes}
use Rattle.sheet.specs.Format.{Names}
use Rattle.sheet.specs.Parts.{Parts}
use Rattle.sheet.specs.Rows.{row_in}
use Rattle.sheet.specs.Views.{seen}
use Rattle.sheet.proofs.Sounding.{row-read}
use Rattle.sheet.proofs.views.Sheet.row.Goals as goal

pub returns : goal.returns
returns c =
    let s = seen c.args.self.now in
    let here = λ (p : Parts). chunk 12 c.args.place p.rows.bytes in
    let r = row-read s c.args.place (subst (λ p. AllBytes (here p)) c.layout.ensures c.stated_row.ensures.bytes) c.args.self.now.sound c.requires in
    let is = c.stated_row.ensures.value ∙ ap (λ p. row_in (here p)) c.layout.ensures in
    record { value = r.read ∙ ap Ok (sym is); stated = is; names = subst (Names s.variables s.input_count s.places) (sym is) r.names }
