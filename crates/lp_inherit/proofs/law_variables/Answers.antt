use Rattle.lp_inherit.proofs.Variables.{rows_seen}
use Rattle.lp_inherit.proofs.law_variables.Goals as goal

pub returns : goal.returns
returns c = rows_seen
