use Rattle.lp_sessions.proofs.LawsHold.{outputs_sent}
use Rattle.lp_sessions.proofs.laws.outputs_are_sent.Goals as goal

pub returns : goal.returns
returns c = outputs_sent
