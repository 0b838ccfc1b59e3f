use Rattle.std.proofs.Common.{to_z-of_z, w32, w64, SFits, rules}
use Rattle.span.proofs.working.corners.Goals as goal

pub returns : goal.returns
returns c =
    let al : SFits w32 c.args.a.lo = search rules in
    let ah : SFits w32 c.args.a.hi = search rules in
    let bl : SFits w32 c.args.b.lo = search rules in
    let bh : SFits w32 c.args.b.hi = search rules in
    let fw : SFits w64 c.exact-w.result = search rules in
    let fx : SFits w64 c.exact-x.result = search rules in
    let fy : SFits w64 c.exact-y.result = search rules in
    let fz : SFits w64 c.exact-z.result = search rules in
    let fi1 : SFits w64 c.min.result = search rules in
    let fi2 : SFits w64 c.min-2.result = search rules in
    let fi3 : SFits w64 c.min-3.result = search rules in
    let fa1 : SFits w64 c.max.result = search rules in
    let fa2 : SFits w64 c.max-2.result = search rules in
    let fa3 : SFits w64 c.max-3.result = search rules in
    let w = simp to_z-of_z at c.exact-w.ensures in
    let x = simp to_z-of_z at c.exact-x.ensures in
    let y = simp to_z-of_z at c.exact-y.ensures in
    let z = simp to_z-of_z at c.exact-z.ensures in
    let min1 = simp to_z-of_z at c.min.ensures in
    let min2 = simp to_z-of_z at c.min-2.ensures in
    let min3 = simp to_z-of_z at c.min-3.ensures in
    let max1 = simp to_z-of_z at c.max.ensures in
    let max2 = simp to_z-of_z at c.max-2.ensures in
    let max3 = simp to_z-of_z at c.max-3.ensures in
    record { low = simp to_z-of_z (cc); high = simp to_z-of_z (cc) }
