use Rattle.lp_step.proofs.Prefixed.{unary_there}
use Rattle.lp_step.proofs.unaries.operate.Goals as goal

pub returns-in-Ok-clause-there : goal.returns-in-Ok-clause-there
returns-in-Ok-clause-there g c = unary_there c.args.cells.now c.args.op _ c.in-Ok.v c.in-Ok.ensures.value
