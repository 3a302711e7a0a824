use Rattle.std.proofs.Common.{◌≡◌, ◌≤◌, ◌++◌, drop, length}
use Rattle.lp_door.specs.Doors.{without_dropped}
use Rattle.lp_door.proofs.line.line_of.Given as goal

-- the line so far, and what the rest of the message leaves, is what the message leaves
abbrev pub invariant-loop-byte : goal.invariant-loop-byte
invariant-loop-byte l = record {
  line : l.line.items ++ without_dropped (drop l.byte-index l.message) ≡ without_dropped l.message;
  short : length l.line.items ≤ 4096;
}
