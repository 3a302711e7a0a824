use Rattle.std.proofs.Common.{length}
use Rattle.lp_loading.proofs.simuls.+is_under_way.Given as goal

abbrev pub decreases-is_under_way : goal.decreases-is_under_way
decreases-is_under_way l = length l.loads.now
