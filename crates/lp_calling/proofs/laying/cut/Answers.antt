use Rattle.lp_calling.proofs.Ending.{fit_as}
use Rattle.lp_calling.proofs.laying.cut.Goals as goal

pub returns-clause-keeps : goal.returns-clause-keeps
returns-clause-keeps c = λ live h. fit_as live c.args.stack.now.items c.truncate.new.self.items c.args.low c.truncate.ensures.items h
