use Rattle.std.proofs.Common.{◌≡◌, ◌≤◌, length}
use Rattle.std.specs.Vec.Iter.{into_iter_items}
use Rattle.indexmap.specs.IndexMap.{insert_all}
use Rattle.lp_values.specs.Limits.{max_items}
use Rattle.lp_values.specs.Read.{value_eq}
use Rattle.lp_cells.specs.Mapping.{pairs_of}
use Rattle.lp_cells.proofs.pairs.Pairs.from_vec.Given as goal

abbrev pub invariant-loop-key : goal.invariant-loop-key
invariant-loop-key l = (insert_all value_eq l.all (into_iter_items l.key-iterator) ≡ pairs_of l.fn.pairs.items) × (length l.all ≤ max_items)
