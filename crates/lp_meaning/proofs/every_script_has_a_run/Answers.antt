use Rattle.lp_meaning.proofs.Turning.{every_script_has_a_run}
use Rattle.lp_meaning.proofs.every_script_has_a_run.Goals as goal

pub returns : goal.returns
returns c = every_script_has_a_run
