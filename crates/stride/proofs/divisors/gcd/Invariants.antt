use Rattle.std.proofs.Common.{◌≡◌}
use Rattle.arith.specs.Residues.{gcd}
use Rattle.stride.proofs.divisors.gcd.Given as goal

abbrev pub invariant-loop-low : goal.invariant-loop-low
invariant-loop-low l = gcd l.high l.low ≡ gcd l.a l.b

abbrev pub decreases-loop-low : goal.decreases-loop-low
decreases-loop-low l = l.low
