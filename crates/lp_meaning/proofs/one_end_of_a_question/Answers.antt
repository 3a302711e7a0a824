use Rattle.lp_meaning.proofs.Unique.{one_end}
use Rattle.lp_meaning.proofs.one_end_of_a_question.Goals as goal

pub returns : goal.returns
returns c = one_end
