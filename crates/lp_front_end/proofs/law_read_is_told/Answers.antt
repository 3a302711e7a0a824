use Rattle.lp_front_end.proofs.Telling.{read_is_told}
use Rattle.lp_front_end.proofs.law_read_is_told.Goals as goal

pub returns : goal.returns
returns c = read_is_told
