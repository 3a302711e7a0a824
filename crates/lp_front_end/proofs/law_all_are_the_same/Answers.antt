use Rattle.lp_front_end.proofs.Same.{all_are_the_same}
use Rattle.lp_front_end.proofs.law_all_are_the_same.Goals as goal

pub returns : goal.returns
returns c = all_are_the_same c.law_one_outcome.ensures c.one_unit_law.ensures
