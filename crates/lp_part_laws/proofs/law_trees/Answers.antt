use Rattle.lp_part_laws.proofs.Trees.{part_settled}
use Rattle.lp_part_laws.proofs.law_trees.Goals as goal

pub returns : goal.returns
returns c = λ versions v i p r e. (part_settled versions v i p r e).tree
