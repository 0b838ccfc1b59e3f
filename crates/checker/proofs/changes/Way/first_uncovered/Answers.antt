use Rattle.std.proofs.Common.{◌≡◌, true, false, rules}
use Rattle.std.proofs.lemmas.Iterator.{first_from_Range}
use Rattle.checker.specs.Changes.{covers}
use Rattle.checker.proofs.Kept.{first-of}
use Rattle.checker.proofs.changes.Way.first_uncovered.Goals as goal

pub returns : goal.returns
returns g c =
    let w = c.args.self.now in
    first-of (covers g.D.Domain.ops w) w.from.grid.now.sheet.variables c.find.result
    (first_from_Range _ _ _ c.find.result (λ x. covers g.D.Domain.ops w x ≡ false) (λ x. covers g.D.Domain.ops w x ≡ true) c.find.ensures.ran
    (λ x q k. search rules) (λ x q k. search rules))
