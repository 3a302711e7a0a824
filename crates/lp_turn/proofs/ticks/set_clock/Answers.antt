use Rattle.lp_turn.proofs.Timed.{closed_clocked}
use Rattle.lp_turn.proofs.ticks.set_clock.Goals as goal

pub returns-clause-closed : goal.returns-clause-closed
returns-clause-closed c = closed_clocked c.args.live.now c.args.moment c.requires.moment c.requires.closed
