use Rattle.lp_sim.proofs.WrongLines.{wrong_lines}
use Rattle.lp_sim.proofs.wrong_lines_are_refused.Goals as goal

pub returns : goal.returns
returns c = wrong_lines
