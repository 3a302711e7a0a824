use Rattle.std.proofs.Common.{length}
use Rattle.lp_timers.specs.Tree.{lines_of}
use Rattle.lp_timers.proofs.tree.Tree.+cut.Given as goal

abbrev pub decreases-cut : goal.decreases-cut
decreases-cut l = length (lines_of l.self)
