use Rattle.std.proofs.Common.{ap}
use Rattle.lp_world.specs.declared.live.Live.{Live}
use Rattle.lp_turn.proofs.Ended.{told_stop}
use Rattle.lp_turn.proofs.ends.tell_stop.Goals as goal

pub returns-in-Ok-tell_both-clause-tells : goal.returns-in-Ok-tell_both-clause-tells
returns-in-Ok-tell_both-clause-tells g c = λ t programs w x h i.
    told_stop (g.W.SwapFile.content c.error_record.new.swap) programs w x c.args.player c.args.live.now c.error_record.new.live c.tell_both.new.live c.in-Ok.out (c.error_record.ensures.stands t programs w h)
    (ap (λ (l : Live). l.outputs) c.error_record.ensures.brings.stays.others) (c.in-Ok.ensures.record t programs w x h i) c.in-Ok-tell_both.ensures.told
