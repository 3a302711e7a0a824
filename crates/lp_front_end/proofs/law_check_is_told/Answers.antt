use Rattle.lp_front_end.proofs.Telling.{check_is_told}
use Rattle.lp_front_end.proofs.law_check_is_told.Goals as goal

pub returns : goal.returns
returns c = check_is_told
