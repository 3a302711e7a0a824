use Rattle.lp_part_laws.proofs.Spelled.{names_are_spelled}
use Rattle.lp_part_laws.proofs.law_spelled.Goals as goal

pub returns : goal.returns
returns c = names_are_spelled
