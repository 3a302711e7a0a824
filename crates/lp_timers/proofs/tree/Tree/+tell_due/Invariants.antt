use Rattle.std.proofs.Common.{length}
use Rattle.lp_timers.specs.Tree.{lines_of}
use Rattle.lp_timers.proofs.tree.Tree.+tell_due.Given as goal

abbrev pub decreases-tell_due : goal.decreases-tell_due
decreases-tell_due l = length (lines_of l.self.now)
