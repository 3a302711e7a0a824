use Rattle.lp_lexer.proofs.Unsigned.{lexed-unsigned}
use Rattle.lp_lexer.proofs.law_unsigned.Goals as goal

pub returns : goal.returns
returns c = lexed-unsigned
