use Rattle.std.proofs.Common.{◌≡◌, take}
use Rattle.indexmap.specs.IndexMap.{insert_all}
use Rattle.lp_values.specs.Read.{value_eq}
use Rattle.lp_cells.specs.Mapping.{pairs_there}
use Rattle.lp_cells.specs.Slots.{filled}
use Rattle.lp_cells.proofs.pairs.Pairs.with_there.Given as goal

abbrev pub invariant-loop-slot : goal.invariant-loop-slot
invariant-loop-slot g l = l.all ≡ insert_all value_eq l.fn.self (pairs_there (g.L.Living.live l.live) (filled (take l.slot-index l.slots)))
