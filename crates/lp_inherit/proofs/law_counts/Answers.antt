use Rattle.lp_inherit.proofs.Meanings.{count_parts, count_variables}
use Rattle.lp_inherit.proofs.law_counts.Goals as goal

pub returns : goal.returns
returns c = λ h. (count_parts h, count_variables h)
