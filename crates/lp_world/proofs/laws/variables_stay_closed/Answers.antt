use Rattle.lp_world.proofs.Closing.{closed_with_variable}
use Rattle.lp_world.proofs.laws.variables_stay_closed.Goals as goal

pub returns : goal.returns
returns c = closed_with_variable
