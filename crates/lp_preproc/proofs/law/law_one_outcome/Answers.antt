use Rattle.lp_preproc.proofs.Outcomes.{one_outcome}
use Rattle.lp_preproc.proofs.law.law_one_outcome.Goals as goal

pub returns : goal.returns
returns c = λ c' n o p h g. one_outcome c.one_tree_law.ensures h g
