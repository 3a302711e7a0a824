use Rattle.lp_turn.proofs.Ended.{logon_ended}
use Rattle.lp_turn.proofs.feed.take_logon.Goals as goal

pub returns-in-Ok-clause-takes : goal.returns-in-Ok-clause-takes
returns-in-Ok-clause-takes g c = λ t.
    logon_ended (g.W.SwapFile.content c.args.swap.now) (g.W.SwapFile.content c.value_of.new.swap) c.args.live.now c.value_of.new.live c.args.number c.args.o c.args.end c.in-Ok.v (c.in-Ok.ensures.value t)
