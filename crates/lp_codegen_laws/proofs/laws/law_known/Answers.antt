use Rattle.lp_codegen_laws.proofs.Whole.{known_unit}
use Rattle.lp_codegen_laws.proofs.laws.law_known.Goals as goal

pub returns : goal.returns
returns c = known_unit c.law_meaning.ensures
