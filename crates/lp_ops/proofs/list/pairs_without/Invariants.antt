use Rattle.std.proofs.Common.{◌≡◌, take, []}
use Rattle.indexmap.specs.IndexMap.{insert_all}
use Rattle.lp_values.specs.Read.{value_eq}
use Rattle.lp_cells.specs.Mapping.{pairs_there}
use Rattle.lp_cells.specs.Slots.{filled}
use Rattle.lp_ops.specs.Operators.{pairs_without}
use Rattle.lp_ops.proofs.list.pairs_without.Given as goal

abbrev pub invariant-loop-slot : goal.invariant-loop-slot
invariant-loop-slot g l = l.kept ≡ insert_all value_eq [] (pairs_without (g.L.Living.live l.live) (pairs_there (g.L.Living.live l.live) (filled (take l.slot-index l.slots))) (pairs_there (g.L.Living.live l.live) l.second))
