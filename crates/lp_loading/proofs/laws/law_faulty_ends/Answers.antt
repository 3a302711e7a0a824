use Rattle.lp_loading.proofs.Telling.{faulty_ends}
use Rattle.lp_loading.proofs.laws.law_faulty_ends.Goals as goal

pub returns : goal.returns
returns c = faulty_ends
