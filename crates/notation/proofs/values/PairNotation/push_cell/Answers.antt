use Rattle.std.proofs.Common.{◌++◌, vec_items, ap, ◌∙◌, append_assoc}
use Rattle.notation.proofs.Held.{pair_held}
use Rattle.notation.proofs.values.PairNotation.push_cell.Goals as goal

pub returns : goal.returns
returns g c =
    let v = c.args.self.now in
    let a = g.A.Notation.cell v.first in
    let b = g.B.Notation.cell v.second in
    let e = c.in_ok-push_cell.ensures in
    let f = c.in_ok-push_cell-2.ensures in
    record {
      added = f.added ∙ ap (λ m. m ++ b) e.added ∙ append_assoc (vec_items c.args.out.now) a b;
      held = pair_held g.A.Domain.ops g.B.Domain.ops g.met.A.Domain.reading g.met.B.Domain.reading g.A.Notation.cell g.B.Notation.cell v e.held f.held;
    }
