use Rattle.lp_part_laws.proofs.Rows.{function_at}
use Rattle.lp_part_laws.proofs.law_functions.Goals as goal

pub returns : goal.returns
returns c = function_at
