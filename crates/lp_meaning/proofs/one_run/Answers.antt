use Rattle.lp_meaning.proofs.Unique.{one_run}
use Rattle.lp_meaning.proofs.one_run.Goals as goal

pub returns : goal.returns
returns c = one_run
