use Rattle.lp_parser_stmt.proofs.Laws.{reads_names}
use Rattle.lp_parser_stmt.proofs.law.names_law.Goals as goal

pub returns : goal.returns
returns c = reads_names
