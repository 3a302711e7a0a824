use Rattle.lp_tree.proofs.Examples.{are_spelled}
use Rattle.lp_tree.proofs.laws.law_examples.Goals as goal

pub returns : goal.returns
returns c = are_spelled
