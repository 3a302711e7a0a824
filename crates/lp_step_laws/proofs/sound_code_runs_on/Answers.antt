use Rattle.lp_step_laws.proofs.Going.{runs_on}
use Rattle.lp_step_laws.proofs.sound_code_runs_on.Goals as goal

pub returns : goal.returns
returns c = runs_on
