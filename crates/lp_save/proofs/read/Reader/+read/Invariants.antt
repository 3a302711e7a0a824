use Rattle.std.proofs.Common.{◌≡◌, ◌+◌, ◌-◌, ◌*◌, []}
use Rattle.lp_save.specs.Desks.{rest_of}
use Rattle.lp_save.specs.Reading.{items_at, pairs_at}
use Rattle.lp_save.proofs.read.Reader.+read.Given as goal

abbrev pub decreases-read_value : goal.decreases-read_value
decreases-read_value l = l.steps * 8 + 1

abbrev pub decreases-read_items : goal.decreases-read_items
decreases-read_items l = l.steps * 8 + 2

abbrev pub decreases-read_pairs : goal.decreases-read_pairs
decreases-read_pairs l = l.steps * 8 + 2

abbrev pub decreases-read_array : goal.decreases-read_array
decreases-read_array l = l.steps * 8 + 3

abbrev pub decreases-read_mapping : goal.decreases-read_mapping
decreases-read_mapping l = l.steps * 8 + 3

abbrev pub decreases-read_cell : goal.decreases-read_cell
decreases-read_cell l = l.steps * 8 + 4

abbrev pub decreases-read_numbered : goal.decreases-read_numbered
decreases-read_numbered l = l.steps * 8 + 5

abbrev pub decreases-read_share : goal.decreases-read_share
decreases-read_share l = l.steps * 8 + 6

abbrev pub invariant-read_items-loop-i : goal.invariant-read_items-loop-i
invariant-read_items-loop-i l = record {
  same : items_at l.steps l.levels [] (rest_of l.fn.self) ≡ items_at (l.steps - l.i) l.levels l.items.items (rest_of l.self);
  base : l.self.base ≡ l.fn.self.base;
}

abbrev pub invariant-read_pairs-loop-i : goal.invariant-read_pairs-loop-i
invariant-read_pairs-loop-i l = record {
  same : pairs_at l.steps l.levels [] (rest_of l.fn.self) ≡ pairs_at (l.steps - l.i) l.levels l.pairs (rest_of l.self);
  base : l.self.base ≡ l.fn.self.base;
}
