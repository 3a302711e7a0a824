use Rattle.lp_driver.proofs.Starts.{stages_of_step}
use Rattle.lp_driver.proofs.starting.+run_stages.Given as goal

abbrev pub decreases-run_stages : goal.decreases-run_stages
decreases-run_stages g l = stages_of_step l.step
