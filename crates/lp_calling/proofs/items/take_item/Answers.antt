use Rattle.lp_world.specs.Rows.{live_in}
use Rattle.lp_calling.proofs.Rounds.{item_takes}
use Rattle.lp_calling.proofs.items.take_item.Goals as goal

pub returns-clause-takes : goal.returns-clause-takes
returns-clause-takes c =
    item_takes c.args.round c.args.v (live_in c.args.objects.now) c.args.low c.args.stack.now.items c.lay_answer.new.stack.items c.requires.room c.requires.left c.in_ok-lay_answer.ensures.adds
