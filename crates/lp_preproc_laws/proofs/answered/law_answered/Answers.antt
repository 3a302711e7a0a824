use Rattle.lp_preproc_laws.proofs.Decision.{decision}
use Rattle.lp_preproc_laws.proofs.Ends.{answered_file}
use Rattle.lp_preproc_laws.proofs.answered.law_answered.Goals as goal

pub returns : goal.returns
returns c = answered_file c.law_answered.ensures (decision c.machine_law.ensures) c.law_falls.ensures
