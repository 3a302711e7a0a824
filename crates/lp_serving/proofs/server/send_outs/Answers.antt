use Rattle.lp_serving.proofs.Going.{sends_lem}
use Rattle.lp_serving.proofs.server.send_outs.Goals as goal

pub returns-clause-sends : goal.returns-clause-sends
returns-clause-sends g c = sends_lem _ _ _ _ _ _ c.in_ok-take_outs.ensures.ok c.offer_all.ensures.tells
