use Rattle.std.proofs.Common.{rules, subst, ap, ◌∙◌, sym, arith}
use Rattle.scan.proofs.Scans.{ok_same}
use Rattle.sheet.specs.Bytes.{AllBytes}
use Rattle.sheet.specs.Format.{Proper}
use Rattle.sheet.specs.Inputs.{input_of}
use Rattle.sheet.specs.Views.{seen}
use Rattle.sheet.proofs.Records.{record-at}
use Rattle.sheet.proofs.Sounding.{input-read}
use Rattle.sheet.proofs.views.Sheet.input.Goals as goal

pub unreachable-requires : goal.unreachable-requires
unreachable-requires c =
    let s = seen c.args.self.now in
    let fits = c.args.self.now.sound.fits in
    let record-here = record-at 9 c.args.number s.inputs.bytes _ c.as_chunks.ensures.front (omega (arith, fits.inputs, c.requires)) in
    let r = input-read s c.args.number (subst AllBytes record-here c.read_input.ensures.bytes) c.args.self.now.sound c.requires in
    search rules

pub returns : goal.returns
returns c =
    let s = seen c.args.self.now in
    let fits = c.args.self.now.sound.fits in
    let record-here = record-at 9 c.args.number s.inputs.bytes _ c.as_chunks.ensures.front (omega (arith, fits.inputs, c.requires)) in
    let r = input-read s c.args.number (subst AllBytes record-here c.read_input.ensures.bytes) c.args.self.now.sound c.requires in
    let read = c.in-Ok.ensures.value ∙ ap (input_of c.args.number) record-here in
    let is = ok_same (read ∙ r.read) in
    record { value = sym read; stated = is; proper = subst Proper (sym is) r.proper }
