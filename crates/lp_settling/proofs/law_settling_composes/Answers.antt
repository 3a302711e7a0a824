use Rattle.lp_settling.proofs.Still.{onward, still}
use Rattle.lp_settling.proofs.law_settling_composes.Goals as goal

pub returns-clause-itself : goal.returns-clause-itself
returns-clause-itself c = still

pub returns-clause-on : goal.returns-clause-on
returns-clause-on c = onward
