use Rattle.std.proofs.Common.{◌≡◌, ◌+◌, ◌*◌, [], ◌∷◌, ◌++◌, drop, map}
use Rattle.lp_cells.specs.Mapping.{pairs_there}
use Rattle.lp_cells.specs.Slots.{filled}
use Rattle.lp_format.specs.Spelled.{array_spelled, mapping_spelled, pair_spelled, spaced, spelled_within}
use Rattle.lp_format.proofs.spell.+spell.Given as goal

abbrev pub decreases-write_array : goal.decreases-write_array
decreases-write_array g l = l.levels * 4 + 2

abbrev pub decreases-write_mapping : goal.decreases-write_mapping
decreases-write_mapping g l = l.levels * 4 + 2

abbrev pub decreases-write_pair : goal.decreases-write_pair
decreases-write_pair g l = l.levels * 4 + 1

abbrev pub decreases-write_within : goal.decreases-write_within
decreases-write_within g l = l.levels * 4

abbrev pub invariant-write_array-loop-v : goal.invariant-write_array-loop-v
invariant-write_array-loop-v g l = record {
  path : l.path.items ≡ l.fn.path.items;
  text : l.fn.out ++ array_spelled (map (spelled_within (g.L.Living.live l.names) (g.L.Names.name l.names) l.cells l.levels l.fn.path.items) l.items) ≡ l.out ++ (spaced l.others (map (spelled_within (g.L.Living.live l.names) (g.L.Names.name l.names) l.cells l.levels l.fn.path.items) (drop l.v-index l.items)) ++ 32 ∷ 125 ∷ 41 ∷ []);
}

abbrev pub invariant-write_mapping-loop-slot : goal.invariant-write_mapping-loop-slot
invariant-write_mapping-loop-slot g l = record {
  path : l.path.items ≡ l.fn.path.items;
  text : l.fn.out ++ mapping_spelled (map (pair_spelled (spelled_within (g.L.Living.live l.names) (g.L.Names.name l.names) l.cells l.levels l.fn.path.items)) (pairs_there (g.L.Living.live l.names) (filled l.slots))) ≡ l.out ++ (spaced l.others (map (pair_spelled (spelled_within (g.L.Living.live l.names) (g.L.Names.name l.names) l.cells l.levels l.fn.path.items)) (pairs_there (g.L.Living.live l.names) (filled (drop l.slot-index l.slots)))) ++ 32 ∷ 93 ∷ 41 ∷ []);
}
