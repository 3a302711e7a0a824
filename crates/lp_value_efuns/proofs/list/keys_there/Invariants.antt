use Rattle.std.proofs.Common.{◌≡◌, map, take}
use Rattle.lp_cells.specs.Mapping.{pairs_there}
use Rattle.lp_cells.specs.Slots.{filled}
use Rattle.lp_value_efuns.proofs.list.keys_there.Given as goal

abbrev pub invariant-loop-slot : goal.invariant-loop-slot
invariant-loop-slot g l = l.keys.items ≡ map (λ p. p.0) (pairs_there (g.L.Living.live l.live) (filled (take l.slot-index l.slots)))
