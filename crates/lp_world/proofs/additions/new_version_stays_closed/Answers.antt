use Rattle.lp_world.proofs.Grown.{closed_with_new_version}
use Rattle.lp_world.proofs.additions.new_version_stays_closed.Goals as goal

pub returns : goal.returns
returns c = closed_with_new_version
