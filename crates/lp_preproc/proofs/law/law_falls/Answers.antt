use Rattle.lp_preproc.proofs.FallingLines.{falling}
use Rattle.lp_preproc.proofs.law.law_falls.Goals as goal

pub returns : goal.returns
returns c = falling c.law_apart.ensures
