use Rattle.lp_step.proofs.Written.{writes_ok}
use Rattle.lp_step.proofs.writes.write_top.Goals as goal

pub returns-clause-writes : goal.returns-clause-writes
returns-clause-writes c =
    writes_ok c.args.edge c.args.stack.now.items c.pop-v.new.stack.items c.pop-i.new.stack.items c.pop-x.new.stack.items c.args.objects.now c.args.cells.now c.write_value.new.cells c.args.budget.now c.write_value.new.budget c.pop-x.result c.pop-i.result c.pop-v.result c.write_value.result c.pop-v.ensures c.pop-i.ensures c.pop-x.ensures c.requires.there c.write_value.ensures.writes
