use Rattle.lp_meaning.specs.EventTurns.{reload_turn}
use Rattle.lp_driver.proofs.Turns.{turn_over}
use Rattle.lp_driver.proofs.events.reload.Goals as goal

pub returns-clause-ends : goal.returns-clause-ends
returns-clause-ends g c = turn_over (reload_turn c.args.path.now c.args.bytes.now) (g.W.SwapFile.content c.args.swap.now) c.args.live.now c.reload.new.live c.in_ok-reload.ensures.whole
