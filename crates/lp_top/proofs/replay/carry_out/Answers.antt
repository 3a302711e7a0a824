use Rattle.lp_top.proofs.Swapping.{stop-tells}
use Rattle.lp_top.proofs.replay.carry_out.Goals as goal

pub returns-clause-swap : goal.returns-clause-swap
returns-clause-swap g c = rw c.stopped.ensures (stop-tells c.in-Err.fault _ _ _ _ _ _ _ _ c.turn.new.live c.in-Err.ensures.tells)
