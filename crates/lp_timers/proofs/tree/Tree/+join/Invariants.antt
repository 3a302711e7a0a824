use Rattle.std.proofs.Common.{◌+◌, length}
use Rattle.lp_timers.specs.Tree.{lines_of}
use Rattle.lp_timers.proofs.tree.Tree.+join.Given as goal

abbrev pub decreases-join : goal.decreases-join
decreases-join l = length (lines_of l.a) + length (lines_of l.b)
