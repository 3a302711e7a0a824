use Rattle.lp_step_laws.proofs.Going.{goes_on}
use Rattle.lp_step_laws.proofs.sound_code_goes_on.Goals as goal

pub returns : goal.returns
returns c = goes_on
