use Rattle.lp_settling.proofs.Still.{efuns_settle}
use Rattle.lp_settling.proofs.law_efuns_settle.Goals as goal

pub returns : goal.returns
returns c = efuns_settle
