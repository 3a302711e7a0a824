use Rattle.lp_codegen_layout.proofs.Meant.{faultless}
use Rattle.lp_codegen_layout.proofs.laws.law_clear.Goals as goal

pub returns : goal.returns
returns c = faultless
