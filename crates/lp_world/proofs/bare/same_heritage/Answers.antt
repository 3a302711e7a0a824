use Rattle.lp_world.proofs.BareWorlds.{heritage_same}
use Rattle.lp_world.proofs.bare.same_heritage.Goals as goal

pub returns : goal.returns
returns c = heritage_same
