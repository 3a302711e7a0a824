use Rattle.lp_asking.proofs.Courses.{calls_end}
use Rattle.lp_asking.proofs.law_calls_end.Goals as goal

pub returns : goal.returns
returns c = calls_end
