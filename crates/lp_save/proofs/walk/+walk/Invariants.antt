use Rattle.std.proofs.Common.{◌+◌, ◌*◌, take}
use Rattle.std.specs.List.{fold, flat_map}
use Rattle.lp_cells.specs.Mapping.{pairs_there}
use Rattle.lp_cells.specs.Slots.{filled}
use Rattle.lp_save.specs.SaveText.{walked}
use Rattle.lp_save.specs.States.{GoesOver, both}
use Rattle.lp_save.proofs.walk.+walk.Given as goal

abbrev pub decreases-walk : goal.decreases-walk
decreases-walk g l = l.levels * 2

abbrev pub decreases-walk_items : goal.decreases-walk_items
decreases-walk_items g l = l.levels * 2 + 1

abbrev pub decreases-walk_pairs : goal.decreases-walk_pairs
decreases-walk_pairs g l = l.levels * 2 + 1

abbrev pub invariant-walk_items-loop-v : goal.invariant-walk_items-loop-v
invariant-walk_items-loop-v g l = GoesOver l.fn.walker l.walker (λ w. fold (walked (g.L.Living.live l.live) l.cells l.levels) w (take l.v-index l.items))

abbrev pub invariant-walk_pairs-loop-slot : goal.invariant-walk_pairs-loop-slot
invariant-walk_pairs-loop-slot g l = GoesOver l.fn.walker l.walker (λ w. fold (walked (g.L.Living.live l.live) l.cells l.levels) w (flat_map both (pairs_there (g.L.Living.live l.live) (filled (take l.slot-index l.slots)))))
