use Rattle.lp_run.proofs.Caught.{caught_runs_on}
use Rattle.lp_run.proofs.catches.law_caught_runs_on.Goals as goal

pub returns : goal.returns
returns c = caught_runs_on
