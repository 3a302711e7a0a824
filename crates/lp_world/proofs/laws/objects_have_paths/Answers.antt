use Rattle.lp_world.proofs.Paths.{path_of_object}
use Rattle.lp_world.proofs.laws.objects_have_paths.Goals as goal

pub returns : goal.returns
returns c = path_of_object
