use Rattle.lp_parser_expr.proofs.Main.{spells_one}
use Rattle.lp_parser_expr.proofs.law.one_tree_law.Goals as goal

pub returns : goal.returns
returns c = spells_one
