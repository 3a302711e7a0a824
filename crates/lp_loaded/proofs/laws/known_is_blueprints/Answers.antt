use Rattle.lp_loaded.proofs.Ready.{known_is}
use Rattle.lp_loaded.proofs.laws.known_is_blueprints.Goals as goal

pub returns : goal.returns
returns c = known_is
