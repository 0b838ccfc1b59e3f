use Rattle.std.proofs.Common.{ap, ◌∙◌, arith}
use Rattle.sheet.specs.Inputs.{input_of}
use Rattle.sheet.specs.Views.{laid}
use Rattle.sheet.proofs.Records.{record-at}
use Rattle.sheet.proofs.views.Layout.input.Goals as goal

pub returns : goal.returns
returns c =
    let s = laid c.args.self.now in
    let record-here = record-at 9 c.args.number s.inputs.bytes _ c.as_chunks.ensures.front (omega (arith, c.args.self.now.fits.inputs, c.requires)) in
    c.read_input.ensures.value ∙ ap (input_of c.args.number) record-here
