use Rattle.lp_fits.proofs.Fitting.{new_version_fits}
use Rattle.lp_fits.proofs.law_fits.Goals as goal

pub returns : goal.returns
returns c = new_version_fits c.law_spelled.ensures
