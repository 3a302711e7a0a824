use Rattle.lp_turn.proofs.Ended.{load_ended}
use Rattle.lp_turn.proofs.ends.loaded_with.Goals as goal

pub returns-in-Ok-clause-end : goal.returns-in-Ok-clause-end
returns-in-Ok-clause-end g c = λ name t.
    load_ended (g.W.SwapFile.content c.args.swap.now) (g.W.SwapFile.content c.value_of_ending.new.swap) c.args.live.now c.value_of_ending.new.live name c.args.end c.in-Ok.field-0 (c.in-Ok.ensures.value t)
