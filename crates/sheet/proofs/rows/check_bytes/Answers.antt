use Rattle.std.proofs.Common.{◌<◌, ◌≤◌, rules}
use Rattle.std.proofs.lemmas.Iterator.{IsFirst-from_position, YieldsList-from_slice, YieldsList-from_zip}
use Rattle.sheet.proofs.Limits.{first-wrong}
use Rattle.sheet.proofs.rows.check_bytes.Goals as goal

pub returns : goal.returns
returns c =
    let each = YieldsList-from_zip {s = c.zip.result} (YieldsList-from_slice c.args.bytes.now (search rules)) (YieldsList-from_slice c.args.most.now (search rules)) in
    let first = first-wrong c.args.most.now c.args.bytes.now c.args.place (search rules) (search rules) c.position-wrong.result
    (IsFirst-from_position c.position-wrong.new.self _ c.position-wrong.result (λ p. p.1 ≤ p.0) (λ p. p.0 < p.1) c.position-wrong.ensures.ran each (λ x q k. search rules) (λ x q k. search rules)) in
    search rules
