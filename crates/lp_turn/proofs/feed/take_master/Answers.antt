use Rattle.lp_turn.proofs.Ended.{master_ended}
use Rattle.lp_turn.proofs.feed.take_master.Goals as goal

pub returns-in-Ok-clause-takes : goal.returns-in-Ok-clause-takes
returns-in-Ok-clause-takes g c = λ t.
    master_ended (g.W.SwapFile.content c.args.swap.now) (g.W.SwapFile.content c.value_of.new.swap) c.args.live.now c.value_of.new.live c.args.f c.args.end c.in-Ok.v c.behind.result (c.in-Ok.ensures.value t) c.behind.ensures.course
