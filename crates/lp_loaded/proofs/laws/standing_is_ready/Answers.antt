use Rattle.lp_loaded.proofs.Ready.{standing_is_ready}
use Rattle.lp_loaded.proofs.laws.standing_is_ready.Goals as goal

pub returns : goal.returns
returns c = standing_is_ready
