use Rattle.lp_asking.proofs.Courses.{questions_end}
use Rattle.lp_asking.proofs.law_questions_end.Goals as goal

pub returns : goal.returns
returns c = questions_end
