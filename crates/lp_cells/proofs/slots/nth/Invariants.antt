use Rattle.std.proofs.Common.{◌≡◌, drop, slice_get}
use Rattle.lp_cells.specs.Slots.{filled}
use Rattle.lp_cells.proofs.slots.nth.Given as goal

abbrev pub invariant-loop-slot : goal.invariant-loop-slot
invariant-loop-slot l = slice_get (filled (drop l.slot-index l.slots)) l.left ≡ slice_get (filled l.slots) l.i
