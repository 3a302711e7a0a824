use Rattle.lp_front_end.proofs.Existence.{there_is_one}
use Rattle.lp_front_end.proofs.law_there_is_one.Goals as goal

pub returns : goal.returns
returns c = there_is_one c.law_answered.ensures
