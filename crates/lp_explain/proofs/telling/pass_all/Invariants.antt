-- each item takes a byte or more
use Rattle.std.proofs.Common.{◌-◌}
use Rattle.lp_explain.proofs.telling.pass_all.Given as goal

abbrev pub decreases-loop-cut : goal.decreases-loop-cut
decreases-loop-cut l = l.place - l.cut
