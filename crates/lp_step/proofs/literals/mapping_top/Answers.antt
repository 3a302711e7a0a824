use Rattle.lp_step.specs.LiteralWorks.{mapping_of}
use Rattle.lp_step.proofs.Spelled.{spells_ok, taken_there}
use Rattle.lp_step.proofs.literals.mapping_top.Goals as goal

pub returns-clause-works : goal.returns-clause-works
returns-clause-works c =
    spells_ok mapping_of c.args.n c.args.stack.now.items c.take_top.new.stack.items c.in_ok-parts.parts.items c.args.objects.now c.args.cells.now c.price_mapping.new.cells c.args.budget.now c.price_mapping.new.budget c.price_mapping.result c.in_ok-parts.ensures.0 c.in_ok-parts.ensures.1 c.requires.there c.price_mapping.ensures.works

pub price_mapping-requires-clause-there : goal.price_mapping-requires-clause-there
price_mapping-requires-clause-there c = taken_there c.args.cells.now c.args.stack.now.items c.take_top.new.stack.items c.in_ok-parts.parts.items c.in_ok-parts.ensures.0 c.requires.there
