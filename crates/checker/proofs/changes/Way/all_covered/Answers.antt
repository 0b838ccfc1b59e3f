use Rattle.std.proofs.Common.{◌≡◌, true, rules, refl, arith}
use Rattle.std.proofs.lemmas.Iterator.{cases_from_all, YieldsList-from_range}
use Rattle.checker.specs.Changes.{covers, Untouched}
use Rattle.checker.proofs.Kept.{all-covered, each-of}
use Rattle.checker.proofs.changes.Way.all_covered.Goals as goal

pub returns-then-are_changes_covered : goal.returns-then-are_changes_covered
returns-then-are_changes_covered g c =
    let w = c.args.self.now in
    let n = w.from.grid.now.sheet.variables in
    λ yes. all-covered g.D.Domain.describes g.D.Domain.ops g.met.D.Domain.order w
    (c.are_changes_covered.ensures c.if-are_changes_covered.true)
    (each-of (λ x. Untouched w.change x → covers g.D.Domain.ops w x ≡ true) _ n c.all.result
    (cases_from_all _ _ _ (λ x. Untouched w.change x → covers g.D.Domain.ops w x ≡ true) (λ x. Unit {0}) c.all.ensures.ran
    (YieldsList-from_range 0 n n refl (omega arith)) (λ x q k. search rules) (λ x q k. tt)) yes)
