use Rattle.lp_meaning.proofs.Kept.{nothing_is_lost}
use Rattle.lp_meaning.proofs.nothing_is_lost.Goals as goal

pub returns : goal.returns
returns c = nothing_is_lost
