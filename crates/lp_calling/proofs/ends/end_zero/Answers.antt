use Rattle.lp_world.specs.Rows.{live_in}
use Rattle.lp_language.specs.Course.{zero_value}
use Rattle.lp_calling.proofs.Ending.{spends_less, zero_goes}
use Rattle.lp_calling.proofs.ends.end_zero.Goals as goal

pub returns-clause-goes : goal.returns-clause-goes
returns-clause-goes c = λ turn.
    zero_goes c.args.efun c.args.live.now turn c.args.low c.args.stack.now.items c.cut.new.stack.items c.args.budget.now c.finish.new.budget c.finish.result c.cut.ensures.items c.finish.ensures.finishes

pub returns-clause-spends : goal.returns-clause-spends
returns-clause-spends c = spends_less c.args.efun (live_in c.args.live.now.objects) c.args.live.now.cells zero_value c.args.budget.now c.finish.new.budget c.finish.result c.finish.ensures.finishes
