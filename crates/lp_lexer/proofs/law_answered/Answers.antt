use Rattle.lp_lexer.proofs.Ends.{all_answered}
use Rattle.lp_lexer.proofs.law_answered.Goals as goal

pub returns : goal.returns
returns c = all_answered
