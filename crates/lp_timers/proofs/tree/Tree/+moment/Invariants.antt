use Rattle.std.proofs.Common.{length}
use Rattle.lp_timers.specs.Tree.{lines_of}
use Rattle.lp_timers.proofs.tree.Tree.+moment.Given as goal

abbrev pub decreases-moment : goal.decreases-moment
decreases-moment l = length (lines_of l.self.now)
