use Rattle.lp_targets.proofs.Memory.{brings_err, brings_more}
use Rattle.lp_saving.proofs.keeper.bring_there.Goals as goal

pub returns-in-Ok-clause-brings : goal.returns-in-Ok-clause-brings
returns-in-Ok-clause-brings g c = brings_more c.in-Ok.ensures.brings c.in-Ok.ensures.stands c.bring_own.ensures.brings

pub returns-in-Err-clause-brings : goal.returns-in-Err-clause-brings
returns-in-Err-clause-brings g c = brings_err c.in-Err.ensures.brings
