use Rattle.lp_unit_laws.proofs.Arguments.{well_typed}
use Rattle.lp_unit_laws.proofs.law_arguments.Goals as goal

pub returns : goal.returns
returns c = well_typed
