use Rattle.checker.proofs.grids.Entry.check_assignment.Goals as goal

pub returns : goal.returns
returns g c = c.check.ensures
