use Rattle.std.proofs.Common.{◌≤◌, length, take}
use Rattle.lp_commanding.specs.Trying.{AreTriedAs}
use Rattle.lp_commanding.proofs.trying.count_left.Given as goal

abbrev pub invariant-loop-n : goal.invariant-loop-n
invariant-loop-n l = record { within : l.n ≤ length l.left; same : AreTriedAs l.live l.holder l.left (take l.n l.left) }

abbrev pub decreases-loop-n : goal.decreases-loop-n
decreases-loop-n l = l.n
