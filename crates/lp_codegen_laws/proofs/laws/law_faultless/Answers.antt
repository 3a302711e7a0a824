use Rattle.lp_codegen_laws.proofs.Whole.{faultless_unit}
use Rattle.lp_codegen_laws.proofs.laws.law_faultless.Goals as goal

pub returns : goal.returns
returns c = faultless_unit c.law_meaning.ensures
