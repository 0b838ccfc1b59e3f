use Rattle.std.proofs.Common.{ℕ, rules, ◌+◌, ◌*◌, ◌≤◌, ◌++◌, length, ap, ◌∙◌, arith}
use Rattle.scan.specs.Scan.{chunk}
use Rattle.domain.specs.Laws.{blanks}
use Rattle.widening.proofs.Chunked.{at-first, chunk-is, ends-inside, turn, all-done}
use Rattle.widening.proofs.Sizes.{cell-with-sized}
use Rattle.widening.proofs.grids.Grid.fill_cells.Goals as goal

pub loop-x-init : goal.loop-x-init
loop-x-init g c =
    let q = g.B.Domain.ops in
    let w = c.args.self.now.width in
    let n = c.args.self.now.sheet.variables in
    let cells = c.args.cells.now in (
      search rules,
      search rules,
      search rules,
      at-first (λ x. chunk w x cells ++ blanks q) w (w + q.width) n cells c.args.out.now _ _ c.requires.whole c.requires.room (cell-with-sized q w n cells c.requires.whole) (search rules) (search rules),
    )

pub slice_bounds-fill_cell-end : goal.slice_bounds-fill_cell-end
slice_bounds-fill_cell-end g c =
    let f = λ (x : ℕ). chunk c.args.self.now.width x c.args.cells.now ++ blanks g.B.Domain.ops in
    let st = c.in-Some.ensures.steps in
    let w = c.args.self.now.width in
    let ends : c.in-Some.x * (w + c.width.result) + (w + c.width.result) ≤ length c.loop-x.out =
    rw (st.1, c.width.ensures) (ends-inside f c.loop-x.invariant.3 c.args.self.now.some c.in-Some.cell.now c.next.new.self.iter.rest.now st.0.1.0 (st.0.1.1 ∙ c.loop-x.invariant.2)) in
    omega (arith, ends)

pub loop-x-preserved : goal.loop-x-preserved
loop-x-preserved g c =
    let f = λ (x : ℕ). chunk c.args.self.now.width x c.args.cells.now ++ blanks g.B.Domain.ops in
    let m = c.loop-x.invariant.3 in
    let st = c.in-Some.ensures.steps in
    let sized = st.0.1.1 ∙ c.loop-x.invariant.2 in
    let cell = chunk-is f m c.args.self.now.some c.in-Some.cell.now c.next.new.self.iter.rest.now st.0.1.0 sized in (
      search rules,
      search rules,
      search rules,
      rw (st.2, st.1, c.width.ensures) (turn f m c.args.self.now.some c.in-Some.cell.now c.next.new.self.iter.rest.now st.0.1.0 sized c.fill_cell.new.out _ (omega arith) (c.fill_cell.ensures ∙ ap (λ l. l ++ blanks g.B.Domain.ops) cell)),
    )

pub returns : goal.returns
returns g c =
    let f = λ (x : ℕ). chunk c.args.self.now.width x c.args.cells.now ++ blanks g.B.Domain.ops in
    all-done f c.loop-x.invariant.3 (omega (arith, c.in-None.ensures.steps.0.1.0, c.loop-x.invariant.2))
