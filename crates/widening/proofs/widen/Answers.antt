use Rattle.std.proofs.Common.{◌+◌, ◌*◌, ◌++◌, length, ap, ◌∙◌, ap₂}
use Rattle.sheet.specs.Views.{seen}
use Rattle.widening.specs.Writes.{sheet_with}
use Rattle.widening.proofs.Fitting.{too_short, room-enough, bytes-are}
use Rattle.widening.proofs.widen.Goals as goal

pub returns-then-out-size-clause-answer : goal.returns-then-out-size-clause-answer
returns-then-out-size-clause-answer g c =
    let s = seen c.in_ok-grid.grid.sheet in
    let q = g.B.Domain.ops in
    too_short g.A.Domain.ops q c.args.bytes.now s c.in_ok-grid.ensures.0 c.widened_len-size.result (length c.args.out.now)
    (c.widened_len-size.ensures ∙ ap (λ w. 28 + length s.inputs.bytes + length s.rows.bytes + s.places * (1 + s.variables * (w + q.width))) c.in_ok-grid.ensures.1)
    c.if-out-size.true

pub returns-clause-answer : goal.returns-clause-answer
returns-clause-answer g c =
    let s = seen c.in_ok-grid.grid.sheet in
    let q = g.B.Domain.ops in
    room-enough g.A.Domain.ops q c.args.bytes.now s c.in_ok-grid.ensures.0 c.widened_len-size.result (length c.args.out.now)
    (c.widened_len-size.ensures ∙ ap (λ w. 28 + length s.inputs.bytes + length s.rows.bytes + s.places * (1 + s.variables * (w + q.width))) c.in_ok-grid.ensures.1)
    c.if-out-size.false

pub returns-clause-written : goal.returns-clause-written
returns-clause-written g c =
    let s = seen c.in_ok-grid.grid.sheet in
    let q = g.B.Domain.ops in
    ap₂ ◌++◌
    (c.fill.ensures ∙ ap (λ w. sheet_with q w s) c.in_ok-grid.ensures.1 ∙ bytes-are g.A.Domain.ops q c.args.bytes.now s c.in_ok-grid.ensures.0)
    c.split_at_mut-front.ensures.back
