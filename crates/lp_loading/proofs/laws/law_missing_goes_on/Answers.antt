use Rattle.lp_loading.proofs.Telling.{missing_goes_on}
use Rattle.lp_loading.proofs.laws.law_missing_goes_on.Goals as goal

pub returns : goal.returns
returns c = missing_goes_on
