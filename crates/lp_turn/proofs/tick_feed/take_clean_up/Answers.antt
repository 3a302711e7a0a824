use Rattle.lp_turn.proofs.TickEnded.{clean_up_ended}
use Rattle.lp_turn.proofs.tick_feed.take_clean_up.Goals as goal

pub returns-in-Ok-clause-takes : goal.returns-in-Ok-clause-takes
returns-in-Ok-clause-takes g c = λ t.
    clean_up_ended (g.W.SwapFile.content c.args.swap.now) (g.W.SwapFile.content c.value_of.new.swap) c.args.live.now c.value_of.new.live c.args.o c.args.due c.args.end c.in-Ok.v (c.in-Ok.ensures.value t)
