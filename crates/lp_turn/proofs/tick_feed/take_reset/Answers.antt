use Rattle.lp_turn.proofs.TickEnded.{reset_ended}
use Rattle.lp_turn.proofs.tick_feed.take_reset.Goals as goal

pub returns-in-Ok-clause-takes : goal.returns-in-Ok-clause-takes
returns-in-Ok-clause-takes g c = λ t.
    reset_ended (g.W.SwapFile.content c.args.swap.now) (g.W.SwapFile.content c.value_of.new.swap) c.args.live.now c.value_of.new.live c.args.due c.args.end c.in-Ok.field-0 (c.in-Ok.ensures.value t)
