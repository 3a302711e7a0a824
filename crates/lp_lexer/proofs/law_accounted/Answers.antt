use Rattle.lp_lexer.proofs.Cover.{bytes_accounted}
use Rattle.lp_lexer.proofs.law_accounted.Goals as goal

pub returns : goal.returns
returns c = bytes_accounted
