use Rattle.lp_calling.proofs.Ending.{fit_as, spends_less, there_at, value_goes}
use Rattle.lp_world.specs.Rows.{live_in}
use Rattle.lp_calling.proofs.ends.end_value.Goals as goal

pub returns-clause-goes : goal.returns-clause-goes
returns-clause-goes c = λ turn.
    value_goes c.args.efun c.args.live.now turn c.args.low c.args.stack.now.items c.take_at-v.new.stack.items c.args.budget.now c.finish.new.budget c.take_at-v.result c.finish.result c.take_at-v.ensures.value c.take_at-v.ensures.rest (there_at c.args.live.now c.args.stack.now.items c.args.low c.take_at-v.result c.take_at-v.ensures.value c.requires.fit) c.finish.ensures.finishes

pub returns-clause-fit : goal.returns-clause-fit
returns-clause-fit c = fit_as c.args.live.now c.args.stack.now.items c.take_at-v.new.stack.items c.args.low c.take_at-v.ensures.rest c.requires.fit

pub returns-clause-spends : goal.returns-clause-spends
returns-clause-spends c = spends_less c.args.efun (live_in c.args.live.now.objects) c.args.live.now.cells c.take_at-v.result c.args.budget.now c.finish.new.budget c.finish.result c.finish.ensures.finishes

pub finish-requires : goal.finish-requires
finish-requires c = record { there = there_at c.args.live.now c.args.stack.now.items c.args.low c.take_at-v.result c.take_at-v.ensures.value c.requires.fit }
