use Rattle.std.proofs.Common.{◌-◌, length}
use Rattle.lp_keeping.specs.Marks.{count}
use Rattle.lp_keeping.proofs.Named.{AreReached}
use Rattle.lp_keeping.proofs.settling.settle.Given as goal

abbrev pub invariant-passes : goal.invariant-passes
invariant-passes l = AreReached l.versions l.fn.marks l.marks

-- each pass marks one more at least
abbrev pub decreases-passes : goal.decreases-passes
decreases-passes l = length l.marks - count l.marks
