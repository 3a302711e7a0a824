use Rattle.lp_format.proofs.LawLemmas.{is_told}
use Rattle.lp_format.proofs.sprintf.law_whole.Goals as goal

pub returns : goal.returns
returns c = is_told
