use Rattle.std.proofs.Common.{cond, [], ◌∷◌, ◌++◌, vec_items, ap, ◌∙◌, append_assoc}
use Rattle.notation.proofs.Held.{marked-held}
use Rattle.notation.proofs.values.NonzeroNotation.push_cell.Goals as goal

pub returns : goal.returns
returns g c =
    let v = c.args.self.now in
    let old = vec_items c.args.out.now in
    let a = g.A.Notation.cell v.inner in
    let e = c.in_ok-push.ensures in
    let f = c.in_ok-push_cell.ensures in
    record {
      added = f.added ∙ ap (λ m. m ++ a) (e.items ∙ ap (λ b. old ++ b ∷ []) c.mark_byte.ensures) ∙ append_assoc old (cond v.marked 1 0 ∷ []) a;
      held = marked-held g.A.Domain.ops g.A.Notation.cell v f.held;
    }
