use Rattle.lp_lasting_laws.proofs.Questions.{call_outs_last}
use Rattle.lp_lasting_laws.proofs.law_call_outs_last.Goals as goal

pub returns : goal.returns
returns c = call_outs_last
