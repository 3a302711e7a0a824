use Rattle.lp_world.proofs.Keeping.{stands_with_variable}
use Rattle.lp_world.proofs.laws.variable_stands.Goals as goal

pub returns : goal.returns
returns c = stands_with_variable
