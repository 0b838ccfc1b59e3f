use Rattle.std.proofs.Common.{◌≡◌, sym, ap, ◌∙◌, subst, arith}
use Rattle.arith.specs.Residues.{gcd}
use Rattle.arith.proofs.Remainders.{gcd-step, gcd-zero-right}
use Rattle.stride.specs.Divisors.{Greatest}
use Rattle.stride.specs.Multiples.{gcd-greatest}
use Rattle.stride.proofs.divisors.gcd.Goals as goal

pub loop-low-preserved : goal.loop-low-preserved
loop-low-preserved c = sym (gcd-step c.loop-low.high c.loop-low.low (omega arith)) ∙ c.loop-low.invariant

pub returns : goal.returns
returns c =
    let found : c.loop-low.high ≡ gcd c.args.a c.args.b = sym (gcd-zero-right c.loop-low.high) ∙ ap (gcd c.loop-low.high) (sym c.loop-low-test.false) ∙ c.loop-low.invariant in
    record { value = found; means = subst (λ g. Greatest c.args.a c.args.b g) (sym found) (gcd-greatest c.args.a c.args.b) }
