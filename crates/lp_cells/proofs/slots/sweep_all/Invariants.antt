use Rattle.std.proofs.Common.{◌≡◌, length}
use Rattle.lp_cells.specs.Mapping.{pairs_there}
use Rattle.lp_cells.specs.Slots.{IsIndexed, IsSweptTo, filled}
use Rattle.lp_cells.proofs.slots.sweep_all.Given as goal

abbrev pub invariant-loop-s : goal.invariant-loop-s
invariant-loop-s g l = record {
  len : length l.slots.items ≡ length l.fn.slots.items;
  indexed : IsIndexed l.places.entries l.slots.items;
  same : pairs_there (g.L.Living.live l.live) (filled l.slots.items) ≡ pairs_there (g.L.Living.live l.live) (filled l.fn.slots.items);
  swept : IsSweptTo (g.L.Living.live l.live) l.s l.slots.items;
}
