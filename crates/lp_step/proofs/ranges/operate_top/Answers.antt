use Rattle.lp_step.proofs.Ranged.{cut_there, first_there, last_there, ranges_ok}
use Rattle.lp_step.proofs.ranges.operate_top.Goals as goal

pub returns-clause-works : goal.returns-clause-works
returns-clause-works c =
    ranges_ok c.args.from c.args.to c.args.stack.now.items c.pop_end-b.new.stack.items c.pop_end-a.new.stack.items c.pop-x.new.stack.items c.args.objects.now c.args.cells.now c.operate_ends.new.cells c.args.budget.now c.operate_ends.new.budget c.pop-x.result c.pop_end-a.result c.pop_end-b.result c.operate_ends.result c.pop_end-b.ensures c.pop_end-a.ensures c.pop-x.ensures c.requires.there c.operate_ends.ensures.works

pub operate_ends-requires-clause-there : goal.operate_ends-requires-clause-there
operate_ends-requires-clause-there c =
    cut_there c.args.from c.args.to c.args.cells.now c.args.stack.now.items c.pop_end-b.new.stack.items c.pop_end-a.new.stack.items c.pop-x.new.stack.items c.pop-x.result c.pop_end-a.result c.pop_end-b.result c.pop_end-b.ensures c.pop_end-a.ensures c.pop-x.ensures c.requires.there

pub operate_ends-requires-clause-first : goal.operate_ends-requires-clause-first
operate_ends-requires-clause-first c =
    first_there c.args.from c.args.to c.args.cells.now c.args.stack.now.items c.pop_end-b.new.stack.items c.pop_end-a.new.stack.items c.pop_end-a.result c.pop_end-b.result c.pop_end-b.ensures c.pop_end-a.ensures c.requires.there

pub operate_ends-requires-clause-last : goal.operate_ends-requires-clause-last
operate_ends-requires-clause-last c =
    last_there c.args.to c.args.cells.now c.args.stack.now.items c.pop_end-b.new.stack.items c.pop_end-b.result c.pop_end-b.ensures c.requires.there
