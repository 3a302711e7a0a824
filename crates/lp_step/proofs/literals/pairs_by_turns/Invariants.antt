use Rattle.std.proofs.Common.{◌≡◌, ◌≤◌, ◌++◌, length, option_to_list}
use Rattle.std.specs.Vec.Iter.{into_iter_items}
use Rattle.indexmap.specs.IndexMap.{insert_all}
use Rattle.lp_values.specs.Limits.{max_items}
use Rattle.lp_values.specs.Read.{value_eq}
use Rattle.lp_cells.specs.Mapping.{pairs_of}
use Rattle.lp_step.specs.LiteralWorks.{by_turns}
use Rattle.lp_step.proofs.literals.pairs_by_turns.Given as goal

abbrev pub invariant-loop-v : goal.invariant-loop-v
invariant-loop-v g l =
    (insert_all value_eq l.all (by_turns (g.L.Living.live l.fn.live) (option_to_list l.key ++ into_iter_items l.v-iterator)) ≡ pairs_of (by_turns (g.L.Living.live l.fn.live) l.fn.parts.items))
    × (length l.all ≤ max_items)
