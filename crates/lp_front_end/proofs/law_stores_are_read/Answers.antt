use Rattle.lp_front_end.proofs.Same.{stores_are_read}
use Rattle.lp_front_end.proofs.law_stores_are_read.Goals as goal

pub returns : goal.returns
returns c = stores_are_read c.law_one_outcome.ensures c.one_unit_law.ensures
