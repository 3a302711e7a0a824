use Rattle.lp_turn.proofs.Ended.{line_ended}
use Rattle.lp_turn.proofs.feed.take_line.Goals as goal

pub returns-in-Ok-clause-takes : goal.returns-in-Ok-clause-takes
returns-in-Ok-clause-takes g c = λ t.
    line_ended (g.W.SwapFile.content c.args.swap.now) (g.W.SwapFile.content c.value_of.new.swap) c.args.live.now c.value_of.new.live c.args.o c.args.end c.in-Ok.field-0 (c.in-Ok.ensures.value t)
