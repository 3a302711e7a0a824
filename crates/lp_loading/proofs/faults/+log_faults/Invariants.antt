use Rattle.std.proofs.Common.{length}
use Rattle.lp_loading.proofs.faults.+log_faults.Given as goal

abbrev pub decreases-log_faults : goal.decreases-log_faults
decreases-log_faults l = length l.faults.now
