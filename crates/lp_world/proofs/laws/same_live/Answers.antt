use Rattle.lp_world.proofs.Keeping.{live_same}
use Rattle.lp_world.proofs.laws.same_live.Goals as goal

pub returns : goal.returns
returns c = live_same
