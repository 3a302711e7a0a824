use Rattle.lp_faultless.proofs.Faultless.{faultless_is_fine}
use Rattle.lp_faultless.proofs.law_faultless.Goals as goal

pub returns : goal.returns
returns c = faultless_is_fine
