use Rattle.lp_step.proofs.Indexed.{indexes_ok}
use Rattle.lp_step.proofs.indexing.index_top.Goals as goal

pub returns-clause-works : goal.returns-clause-works
returns-clause-works c =
    indexes_ok c.args.from_end c.args.stack.now.items c.pop-i.new.stack.items c.pop-x.new.stack.items c.args.objects.now c.args.cells.now c.args.budget.now c.read_index.new.budget c.pop-x.result c.pop-i.result c.read_index.result
    c.pop-i.ensures c.pop-x.ensures c.requires.there c.read_index.ensures.works
