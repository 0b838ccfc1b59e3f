use Rattle.std.proofs.Common.{◌≤◌, length, sym, refl, arith}
use Rattle.std.proofs.lemmas.List.{set_past}
use Rattle.machine.proofs.states.State.assign.Goals as goal

pub returns-else-target-lt-MAX_VARIABLES : goal.returns-else-target-lt-MAX_VARIABLES
returns-else-target-lt-MAX_VARIABLES c =
    let past : length c.args.self.now.values ≤ c.args.target = omega arith in
    record { values = sym (set_past c.args.self.now.values c.args.target c.args.value past); place = refl }
