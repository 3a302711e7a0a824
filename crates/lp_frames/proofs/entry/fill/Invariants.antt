use Rattle.std.proofs.Common.{◌≡◌, ◌-◌, ◌++◌, length, replicate}
use Rattle.lp_language.specs.Course.{zero_value}
use Rattle.lp_frames.proofs.entry.fill.Given as goal

abbrev pub invariant-loop-stack : goal.invariant-loop-stack
invariant-loop-stack l = record { filled : l.stack.items ++ replicate (l.height - length l.stack.items) zero_value ≡ l.initial.stack.items ++ replicate (l.height - length l.initial.stack.items) zero_value }

abbrev pub decreases-loop-stack : goal.decreases-loop-stack
decreases-loop-stack l = l.height - length l.stack.items
