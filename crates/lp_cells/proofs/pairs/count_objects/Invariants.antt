use Rattle.std.proofs.Common.{◌≡◌, ◌≤◌, take}
use Rattle.lp_cells.specs.Mapping.{objects_in}
use Rattle.lp_cells.specs.Slots.{filled}
use Rattle.lp_cells.proofs.pairs.count_objects.Given as goal

abbrev pub invariant-loop-slot : goal.invariant-loop-slot
invariant-loop-slot l = (l.count ≡ objects_in (filled (take l.slot-index l.slots))) × (l.count ≤ l.slot-index)
