use Rattle.std.proofs.Common.{length}
use Rattle.lp_timers.specs.Tree.{lines_of}
use Rattle.lp_timers.proofs.tree.Tree.+set.Given as goal

abbrev pub decreases-set : goal.decreases-set
decreases-set l = length (lines_of l.self)
