use Rattle.lp_world.proofs.BareWorlds.{kept_same}
use Rattle.lp_world.proofs.bare.same_kept.Goals as goal

pub returns : goal.returns
returns c = kept_same
