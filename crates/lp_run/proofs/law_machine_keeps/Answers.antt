use Rattle.lp_run.proofs.Keeping.{machine_keeps}
use Rattle.lp_run.proofs.law_machine_keeps.Goals as goal

pub returns : goal.returns
returns c = machine_keeps
