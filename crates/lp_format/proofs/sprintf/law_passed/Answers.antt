use Rattle.lp_format.proofs.LawLemmas.{is_passed}
use Rattle.lp_format.proofs.sprintf.law_passed.Goals as goal

pub returns : goal.returns
returns c = is_passed
