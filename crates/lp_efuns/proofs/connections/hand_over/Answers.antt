use Rattle.std.proofs.Common.{sym}
use Rattle.lp_efuns.proofs.Handed.{hands_nothing, hands_over}
use Rattle.lp_efuns.proofs.connections.hand_over.Goals as goal

pub returns-in-Some-clause-hands : goal.returns-in-Some-clause-hands
returns-in-Some-clause-hands c =
    hands_over c.args.live.now c.give_unless_connected.new.live c.args.to c.args.from c.in-Some.number c.give_unless_connected.result (sym c.in-Some.ensures) c.give_unless_connected.ensures.gives

pub returns-in-None-clause-hands : goal.returns-in-None-clause-hands
returns-in-None-clause-hands c = hands_nothing c.args.live.now c.args.to c.args.from (sym c.in-None.ensures)
