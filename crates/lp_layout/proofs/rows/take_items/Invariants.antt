use Rattle.std.proofs.Common.{◌≡◌, ◌++◌, ℕ, List, take, map}
use Rattle.lp_tree.specs.UnitView.{item_of}
use Rattle.lp_layout.specs.Layout.{AreSpelled, declared_names}
use Rattle.lp_layout.specs.Origins.{left, rowed, taken}
use Rattle.lp_layout.proofs.rows.take_items.Given as goal

abbrev pub invariant-loop-item : goal.invariant-loop-item
invariant-loop-item l = record {
  rows : AreSpelled (declared_names (map item_of (take l.item-index l.items))) → l.rows.items ≡ l.fn.rows.items ++ taken (rowed l.fn.origins) (declared_names (map item_of (take l.item-index l.items)));
  rest : (w : List ℕ) → rowed l.origins w ≡ left (rowed l.fn.origins) (declared_names (map item_of (take l.item-index l.items))) w;
}
