use Rattle.std.proofs.Common.{◌≡◌, ◌++◌, take, map}
use Rattle.lp_tree.specs.UnitView.{item_of}
use Rattle.lp_layout.specs.Layout.{AreSpelled, own_rows, variable_names}
use Rattle.lp_layout.proofs.variables.add_own.Given as goal

abbrev pub invariant-loop-item : goal.invariant-loop-item
invariant-loop-item l = AreSpelled (variable_names (map item_of (take l.item-index l.items))) → l.rows.items ≡ l.fn.rows.items ++ own_rows l.part (map item_of (take l.item-index l.items))
