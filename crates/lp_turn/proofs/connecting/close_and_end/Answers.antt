use Rattle.lp_turn.proofs.Connected.{closes}
use Rattle.lp_turn.proofs.connecting.close_and_end.Goals as goal

pub returns-clause-begins : goal.returns-clause-begins
returns-clause-begins c = closes c.args.live.now c.tell.new.live c.close.new.live c.args.number c.in_ok-tell.ensures.told c.close.ensures.closes
