use Rattle.dawn.proofs.Calls.{morning}
use Rattle.dawn.proofs.morning_runs.Goals as goal

pub returns : goal.returns
returns c = morning
