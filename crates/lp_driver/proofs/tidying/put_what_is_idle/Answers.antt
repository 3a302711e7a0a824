use Rattle.lp_driver.proofs.Rested.{rest_on}
use Rattle.lp_driver.proofs.tidying.put_what_is_idle.Goals as goal

pub returns-in-Ok-clause-rest : goal.returns-in-Ok-clause-rest
returns-in-Ok-clause-rest g c = rest_on (g.W.SwapFile.content c.args.swap.now) (g.W.SwapFile.content c.put_idle.new.swap) c.args.live.now c.put_idle.new.live c.put_idle.ensures.world c.in-Ok.ensures.outputs
