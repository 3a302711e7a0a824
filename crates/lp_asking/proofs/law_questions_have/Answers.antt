use Rattle.lp_asking.proofs.Courses.{has_of}
use Rattle.lp_asking.proofs.law_questions_have.Goals as goal

pub returns : goal.returns
returns c = λ front a k e m h. has_of front a k e m h
