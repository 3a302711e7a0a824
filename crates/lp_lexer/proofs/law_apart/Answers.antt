use Rattle.lp_lexer.proofs.Cover.{tokens_apart}
use Rattle.lp_lexer.proofs.law_apart.Goals as goal

pub returns : goal.returns
returns c = tokens_apart
