use Rattle.lp_compile.proofs.Clearing.{faultless}
use Rattle.lp_compile.proofs.laws.law_code.Goals as goal

pub returns : goal.returns
returns c = faultless c.law_faultless.ensures
