use Rattle.std.proofs.Common.{◌++◌, vec_items, ap, ◌∙◌}
use Rattle.notation.proofs.Held.{pushed, span-held}
use Rattle.notation.proofs.values.SpanNotation.push_cell.Goals as goal

pub returns : goal.returns
returns c =
    let old = vec_items c.args.out.now in
    record {
      added = pushed old (vec_items c.extend_from_slice.new.self) c.span_cell.result _ _ c.extend_from_slice.ensures.items c.in_ok-extend_from_slice.was ∙ ap (λ m. old ++ m) c.span_cell.ensures;
      held = λ _. span-held c.args.self.now;
    }
