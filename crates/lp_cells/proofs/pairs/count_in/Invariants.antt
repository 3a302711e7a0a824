use Rattle.std.proofs.Common.{◌≡◌, ◌≤◌, length, take}
use Rattle.lp_cells.specs.Mapping.{pairs_there}
use Rattle.lp_cells.specs.Slots.{filled}
use Rattle.lp_cells.proofs.pairs.count_in.Given as goal

abbrev pub invariant-loop-slot : goal.invariant-loop-slot
invariant-loop-slot g l = (l.count ≡ length (pairs_there (g.L.Living.live l.live) (filled (take l.slot-index l.slots)))) × (l.count ≤ l.slot-index)
