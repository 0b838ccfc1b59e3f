-- A way that leads to an entry which does not cover a variable is refused. Assumes nothing.
use Rattle.std.proofs.Common.{◌≡◌, ℕ, ◌<◌, true, false, Ok, Err, refl}
use Rattle.std.proofs.lemmas.Bool.{and_from, lt-ltb, not_from_false}
use Rattle.sheet.specs.declared.refusals.Refusal.TheVariants.{NotCovered}
use Rattle.domain.specs.Model.{Ops}
use Rattle.rules.specs.Checks.{Routine, all_below, covered, lands}
use Rattle.rules.specs.Claims.{Claims}
use Rattle.rules.specs.Faults.{Meets}
use Rattle.rules.specs.Ways.{go}
use Rattle.checker.proofs.Meeting.{below_fails}

pub lands-uncovered : {V : Type 0} (o : Ops V) (r : Routine) (claims : Claims V) (place w t : ℕ) (values : ℕ → V) (x : ℕ)
    → claims.present t ≡ true → x < r.variables → covered o r claims t values x ≡ false
    → Meets {A = Unit {0}} (Err (NotCovered place w x)) (lands o r claims place w (go t values))
lands-uncovered o r claims place w t values x here below bare =
    rw (here, below_fails (covered o r claims t values) x r.variables below bare)
    (x, refl, and_from _ _ (lt-ltb x r.variables below) (not_from_false _ bare))

pub lands-well : {V : Type 0} (o : Ops V) (r : Routine) (claims : Claims V) (place w t : ℕ) (values : ℕ → V)
    → claims.present t ≡ true → all_below (covered o r claims t values) r.variables ≡ true
    → Meets {A = Unit {0}} (Ok tt) (lands o r claims place w (go t values))
lands-well o r claims place w t values here all = rw (here, all) refl
