use Rattle.lp_parser.proofs.Main.{spells_one}
use Rattle.lp_parser.proofs.law.one_unit_law.Goals as goal

pub returns : goal.returns
returns c = spells_one
