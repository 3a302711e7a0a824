use Rattle.lp_step.specs.LiteralWorks.{array_of}
use Rattle.lp_step.proofs.Spelled.{spells_ok, taken_there}
use Rattle.lp_step.proofs.literals.array_top.Goals as goal

pub returns-clause-works : goal.returns-clause-works
returns-clause-works c =
    spells_ok array_of c.args.n c.args.stack.now.items c.take_top.new.stack.items c.in_ok-items.items.items c.args.objects.now c.args.cells.now c.price_array.new.cells c.args.budget.now c.price_array.new.budget c.price_array.result c.in_ok-items.ensures.0 c.in_ok-items.ensures.1 c.requires.there c.price_array.ensures.works

pub price_array-requires-clause-there : goal.price_array-requires-clause-there
price_array-requires-clause-there c = taken_there c.args.cells.now c.args.stack.now.items c.take_top.new.stack.items c.in_ok-items.items.items c.in_ok-items.ensures.0 c.requires.there
