use Rattle.std.proofs.Common.{ℕ, rules, ◌+◌, ◌*◌, ◌≤◌, length, ap, ◌∙◌, arith}
use Rattle.scan.specs.Scan.{chunk}
use Rattle.sheet.proofs.Formed.{chunk-length}
use Rattle.widening.specs.Writes.{entry_with}
use Rattle.widening.proofs.Chunked.{at-first, chunk-is, ends-inside, turn, all-done}
use Rattle.widening.proofs.Sizes.{entry-with-sized}
use Rattle.widening.proofs.grids.Grid.fill_table.Goals as goal

pub loop-place-init : goal.loop-place-init
loop-place-init g c =
    let q = g.B.Domain.ops in
    let s = c.args.self.now.sheet in
    let w = c.args.self.now.width in
    let size = 1 + s.variables * w in
    let table = s.table.bytes.now in (
      search rules,
      search rules,
      search rules,
      at-first (λ place. entry_with q w s.variables (chunk size place table)) size (1 + s.variables * (w + q.width)) s.places table c.args.out.now _ _ c.args.self.now.whole c.requires
          (λ place h. entry-with-sized q w s.variables (chunk size place table) (chunk-length size s.places place table c.args.self.now.whole h)) (search rules) (search rules),
    )

pub overflow_add-at : goal.overflow_add-at
overflow_add-at g c =
    let s = c.args.self.now.sheet in
    let w = c.args.self.now.width in
    let f = λ (place : ℕ). entry_with g.B.Domain.ops w s.variables (chunk (1 + s.variables * w) place s.table.bytes.now) in
    let st = c.in-Some.ensures.steps in
    let step = c.widened_entry-step.result in
    let ends : c.in-Some.place * step + step ≤ length c.loop-place.out =
    rw (st.1, c.widened_entry-step.ensures) (ends-inside f c.loop-place.invariant.3 (omega arith) c.in-Some.entry.now c.next.new.self.iter.rest.now st.0.1.0 (st.0.1.1 ∙ c.loop-place.invariant.2)) in
    omega (arith, ends)

pub slice_bounds-fill_entry-end : goal.slice_bounds-fill_entry-end
slice_bounds-fill_entry-end g c =
    let s = c.args.self.now.sheet in
    let w = c.args.self.now.width in
    let f = λ (place : ℕ). entry_with g.B.Domain.ops w s.variables (chunk (1 + s.variables * w) place s.table.bytes.now) in
    let st = c.in-Some.ensures.steps in
    let step = c.widened_entry-step.result in
    let ends : c.in-Some.place * step + step ≤ length c.loop-place.out =
    rw (st.1, c.widened_entry-step.ensures) (ends-inside f c.loop-place.invariant.3 (omega arith) c.in-Some.entry.now c.next.new.self.iter.rest.now st.0.1.0 (st.0.1.1 ∙ c.loop-place.invariant.2)) in
    omega (arith, ends)

pub loop-place-preserved : goal.loop-place-preserved
loop-place-preserved g c =
    let s = c.args.self.now.sheet in
    let w = c.args.self.now.width in
    let f = λ (place : ℕ). entry_with g.B.Domain.ops w s.variables (chunk (1 + s.variables * w) place s.table.bytes.now) in
    let m = c.loop-place.invariant.3 in
    let st = c.in-Some.ensures.steps in
    let sized = st.0.1.1 ∙ c.loop-place.invariant.2 in
    let entry = chunk-is f m (omega arith) c.in-Some.entry.now c.next.new.self.iter.rest.now st.0.1.0 sized in (
      search rules,
      search rules,
      search rules,
      rw (st.2, st.1, c.widened_entry-step.ensures) (turn f m (omega arith) c.in-Some.entry.now c.next.new.self.iter.rest.now st.0.1.0 sized c.fill_entry.new.out _ (omega arith)
          (c.fill_entry.ensures ∙ ap (entry_with g.B.Domain.ops w s.variables) entry)),
    )

pub returns : goal.returns
returns g c =
    let s = c.args.self.now.sheet in
    let w = c.args.self.now.width in
    let f = λ (place : ℕ). entry_with g.B.Domain.ops w s.variables (chunk (1 + s.variables * w) place s.table.bytes.now) in
    all-done f c.loop-place.invariant.3 (omega (arith, c.in-None.ensures.steps.0.1.0, c.loop-place.invariant.2))
