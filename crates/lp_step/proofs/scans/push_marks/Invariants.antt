use Rattle.std.proofs.Common.{◌≡◌, ◌≤◌, ◌-◌, drop, map, []}
use Rattle.lp_isa.specs.Machine.{marked}
use Rattle.lp_language.specs.Operations.{scanned_value}
use Rattle.lp_world.specs.Matches.{laid}
use Rattle.lp_step.proofs.scans.push_marks.Given as goal

abbrev pub invariant-loop-left : goal.invariant-loop-left
invariant-loop-left l = record {
  within : l.left ≤ l.places;
  marked : l.stack.items ≡ laid l.fn.stack.items (marked (l.places - l.left) (drop l.left (map scanned_value l.found)) []);
}

abbrev pub decreases-loop-left : goal.decreases-loop-left
decreases-loop-left l = l.left
