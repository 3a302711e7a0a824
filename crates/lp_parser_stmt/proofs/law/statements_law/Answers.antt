use Rattle.lp_parser_stmt.proofs.Laws.{reads_blocks}
use Rattle.lp_parser_stmt.proofs.law.statements_law.Goals as goal

pub returns : goal.returns
returns c = reads_blocks
