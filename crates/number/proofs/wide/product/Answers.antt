use Rattle.std.proofs.Common.{◌*ℤ◌, arith, to_z-of_z, w32, w64, SFits}
use borrow.Author.Numbers.{signed_product}
use Rattle.std.proofs.lemmas.Int.{ints}
use Rattle.number.proofs.wide.product.Goals as goal

pub returns : goal.returns
returns c =
    let fa : SFits w32 c.args.a = c.ranges.a in
    let fb : SFits w32 c.args.b = c.ranges.b in
    let ga : SFits w64 c.args.a = omega (arith, ints) in
    let gb : SFits w64 c.args.b = omega (arith, ints) in
    let gp : SFits w64 (c.args.a *ℤ c.args.b) = simp to_z-of_z at (signed_product w64 w32 w32 c.args.a c.args.b fa fb tt) in
    simp to_z-of_z
