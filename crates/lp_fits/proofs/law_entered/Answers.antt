use Rattle.lp_fits.proofs.Fitting.{entry_still_fits}
use Rattle.lp_fits.proofs.law_entered.Goals as goal

pub returns : goal.returns
returns c = entry_still_fits
