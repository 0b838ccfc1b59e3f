use Rattle.machine.proofs.Rules.{faithful}
use Rattle.machine.proofs.steps.steps_are_faithful.Goals as goal

pub returns : goal.returns
returns c row inputs s = faithful row inputs s
