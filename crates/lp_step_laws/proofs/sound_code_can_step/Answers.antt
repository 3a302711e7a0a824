use Rattle.lp_step_laws.proofs.Found.{can_step}
use Rattle.lp_step_laws.proofs.sound_code_can_step.Goals as goal

pub returns : goal.returns
returns c = can_step
