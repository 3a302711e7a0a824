use Rattle.lp_world.proofs.Paths.{path_of_version}
use Rattle.lp_world.proofs.laws.versions_have_paths.Goals as goal

pub returns : goal.returns
returns c = path_of_version
