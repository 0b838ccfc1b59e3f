use Rattle.std.proofs.Common.{rules, sym, subst, Decides, Bool, ◌≡◌}
use Rattle.span.specs.Ends.{Within, has}
use Rattle.span.specs.Covering.{decides-has}
use Rattle.span.proofs.Span.has.Goals as goal

pub returns-clause-means : goal.returns-clause-means
returns-clause-means c =
    let e : c.contains.result ≡ has c.args.self c.args.z = search rules in
    subst (λ (b : Bool). Decides b (Within c.args.self c.args.z)) (sym e) (decides-has c.args.self c.args.z)
