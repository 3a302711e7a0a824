use Rattle.lp_step.proofs.Prefixed.{unary_ok}
use Rattle.lp_step.proofs.unaries.operate_top.Goals as goal

pub returns-clause-works : goal.returns-clause-works
returns-clause-works c =
    unary_ok c.args.op c.args.stack.now.items c.pop-x.new.stack.items c.args.objects.now c.args.cells.now c.args.budget.now c.operate.new.budget c.pop-x.result c.operate.result c.pop-x.ensures c.requires.there c.operate.ensures.works
