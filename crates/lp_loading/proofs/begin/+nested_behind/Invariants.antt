use Rattle.std.proofs.Common.{length}
use Rattle.lp_loading.proofs.begin.+nested_behind.Given as goal

abbrev pub decreases-nested_behind : goal.decreases-nested_behind
decreases-nested_behind l = length l.loads.now
