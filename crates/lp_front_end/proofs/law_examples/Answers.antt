use Rattle.lp_front_end.proofs.Small.{examples}
use Rattle.lp_front_end.proofs.law_examples.Goals as goal

pub returns : goal.returns
returns c = examples c.law_one_outcome.ensures c.one_unit_law.ensures
