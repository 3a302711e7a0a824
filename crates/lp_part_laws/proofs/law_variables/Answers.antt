use Rattle.lp_part_laws.proofs.Bases.{base_room, base_split}
use Rattle.lp_part_laws.proofs.law_variables.Goals as goal

pub returns : goal.returns
returns c = λ h i p e. (base_split h i p e, base_room h i p e)
