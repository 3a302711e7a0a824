use Rattle.lp_turn.proofs.TickEnded.{beat_ended}
use Rattle.lp_turn.proofs.tick_feed.take_beat.Goals as goal

pub returns-in-Ok-clause-takes : goal.returns-in-Ok-clause-takes
returns-in-Ok-clause-takes g c = λ t.
    beat_ended (g.W.SwapFile.content c.args.swap.now) (g.W.SwapFile.content c.value_of.new.swap) c.args.live.now c.value_of.new.live c.args.o c.args.player c.args.due c.args.end c.in-Ok.field-0 c.is_uncaught-is_uncaught.result (c.in-Ok.ensures.value t) c.is_uncaught-is_uncaught.ensures
