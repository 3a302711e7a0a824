use Rattle.lp_world.proofs.Keeping.{stands_with_cell}
use Rattle.lp_world.proofs.laws.new_cell_stands.Goals as goal

pub returns : goal.returns
returns c = stands_with_cell
