use Rattle.std.proofs.Common.{◌≡◌, ◌++◌, ◌-◌, drop, length}
use Rattle.lp_door.specs.Doors.{marked_from}
use Rattle.lp_door.proofs.message.marked.Given as goal

-- what was read, and what the rest gives, is what the bytes give
abbrev pub invariant-loop-at : goal.invariant-loop-at
invariant-loop-at l = l.out.items ++ marked_from 0 (drop l.at l.bytes) ≡ marked_from 0 l.bytes

abbrev pub decreases-loop-at : goal.decreases-loop-at
decreases-loop-at l = length l.bytes - l.at
