use lib.Signed.{quot_z}
use Rattle.std.proofs.Common.{arith, to_z-of_z, w32, w64, SFits, rules}
use Rattle.std.proofs.lemmas.Int.{ints}
use Rattle.arith.proofs.Quotients.{quotient_fits}
use Rattle.number.proofs.Meaning.{quotient_as}
use Rattle.number.proofs.wide.quotient.Goals as goal

pub returns-then-b-eq0 : goal.returns-then-b-eq0
returns-then-b-eq0 c = quotient_as c.args.a c.args.b _ (search rules)

pub returns-else-b-eq0 : goal.returns-else-b-eq0
returns-else-b-eq0 c =
    let fa : SFits w32 c.args.a = c.ranges.a in
    let fb : SFits w32 c.args.b = c.ranges.b in
    let ga : SFits w64 c.args.a = omega (arith, ints) in
    let gb : SFits w64 c.args.b = omega (arith, ints) in
    let gq : SFits w64 (quot_z c.args.a c.args.b) = quotient_fits c.args.a c.args.b fa in
    quotient_as c.args.a c.args.b _ (simp to_z-of_z)
