use Rattle.lp_meaning.proofs.Answered.{every_question_is_answered}
use Rattle.lp_meaning.proofs.every_question_is_answered.Goals as goal

pub returns : goal.returns
returns c = every_question_is_answered
