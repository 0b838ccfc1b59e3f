use Rattle.std.proofs.Common.{◌≡◌, ◌≢◌, ◌+◌, ◌*◌, rules, length}
use Rattle.std.proofs.lemmas.Iterator.{first_from_Range}
use Rattle.sheet.specs.Views.{laid}
use Rattle.sheet.proofs.Sounding.{width-of}
use Rattle.sheet.proofs.views.Layout.cell_width.Goals as goal

pub returns : goal.returns
returns c =
    let s = laid c.args.self.now in
    width-of s c.find.result
    (first_from_Range _ _ _ c.find.result (λ w. length s.table.bytes ≡ s.places * (1 + s.variables * w)) (λ w. length s.table.bytes ≢ s.places * (1 + s.variables * w))
    c.find.ensures.ran (λ x q k. search rules) (λ x q k. search rules))
