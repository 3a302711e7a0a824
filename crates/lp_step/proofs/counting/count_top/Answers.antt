use Rattle.lp_step.proofs.Counted.{count_ok}
use Rattle.lp_step.proofs.counting.count_top.Goals as goal

pub returns-clause-works : goal.returns-clause-works
returns-clause-works c =
    count_ok c.args.step c.args.stack.now.items c.pop-x.new.stack.items c.args.objects.now c.args.cells.now c.args.budget.now c.count.new.budget c.pop-x.result c.count.result c.pop-x.ensures c.requires.there c.count.ensures.works
