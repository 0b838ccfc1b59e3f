use Rattle.std.proofs.Common.{◌≡◌, sym, ◌∙◌, subst, ap₂, w32}
use Rattle.std.proofs.lemmas.Int.{to_z-of_z}
use Rattle.number.proofs.Order.{int32-of-width}
use Rattle.stride.specs.Rules.{FromTo}
use Rattle.stride.specs.Strides.{value}
use Rattle.stride.proofs.RuleProofs.{value-from-to}
use Rattle.stride.proofs.StrideDomain.value.Goals as goal

pub returns : goal.returns
returns c =
    let lo = c.args.lo in
    let hi = c.args.hi in
    let answer : c.between.result ≡ value lo hi = c.between.ensures ∙ ap₂ value (to_z-of_z w32 lo c.ranges.lo) (to_z-of_z w32 hi c.ranges.hi) in
    record { model = answer; means = subst (FromTo lo hi) (sym answer) (value-from-to lo hi (int32-of-width c.ranges.lo)) }
