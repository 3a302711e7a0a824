use Rattle.lp_step.proofs.Counted.{step_there}
use Rattle.lp_step.proofs.counting.count.Goals as goal

pub returns-in-Ok-clause-there : goal.returns-in-Ok-clause-there
returns-in-Ok-clause-there g c = step_there c.args.cells.now c.args.step _ c.in-Ok.v c.in-Ok.ensures
