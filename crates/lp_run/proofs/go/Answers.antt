use Rattle.lp_run.proofs.Together.{can_go, end_there, went}
use Rattle.lp_run.proofs.go.Goals as goal

pub step-requires : goal.step-requires
step-requires c = can_go c.args.live.now c.args.stack.now.items c.args.frame.now c.args.budget.now c.requires

pub returns-clause-went : goal.returns-clause-went
returns-clause-went c =
    went c.args.live.now c.step.new.live c.args.stack.now.items c.step.new.stack.items c.args.frame.now c.step.new.frame c.args.budget.now c.step.new.budget c.step.result c.step.ensures.table c.step.ensures.keeps c.step.ensures.home

pub returns-clause-there : goal.returns-clause-there
returns-clause-there c = end_there c.args.live.now c.step.new.live c.args.stack.now.items c.step.new.stack.items c.args.frame.now c.args.budget.now c.step.result c.requires c.step.ensures.keeps
