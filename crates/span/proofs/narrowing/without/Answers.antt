use Rattle.std.proofs.Common.{to_z-of_z, w32, w64, SFits, rules}
use Rattle.span.proofs.narrowing.without.Goals as goal

pub returns : goal.returns
returns c =
    let al : SFits w32 c.args.a.lo = search rules in
    let ah : SFits w32 c.args.a.hi = search rules in
    let ft : SFits w32 c.truth.result = search rules in
    let fu : SFits w32 c.truth-2.result = search rules in
    let fs : SFits w64 c.sum.result = search rules in
    let fd : SFits w64 c.difference.result = search rules in
    let o = simp to_z-of_z at c.only.ensures in
    let p = simp to_z-of_z at c.only-2.ensures in
    let s = simp to_z-of_z at c.sum.ensures in
    let d = simp to_z-of_z at c.difference.ensures in
    let b = simp to_z-of_z at c.between.ensures in
    cc
