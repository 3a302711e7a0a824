use Rattle.lp_part_laws.proofs.Rows.{fit_reached}
use Rattle.lp_part_laws.proofs.law_names.Goals as goal

pub returns : goal.returns
returns c = fit_reached
