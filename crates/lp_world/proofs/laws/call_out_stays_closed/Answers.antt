use Rattle.lp_world.proofs.Closing.{closed_with_call_out}
use Rattle.lp_world.proofs.laws.call_out_stays_closed.Goals as goal

pub returns : goal.returns
returns c = closed_with_call_out
