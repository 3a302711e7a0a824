use Rattle.std.proofs.Common.{◌≡◌, ◌≤◌, take, map}
use Rattle.lp_tree.specs.UnitView.{item_of}
use Rattle.lp_layout.specs.Layout.{functions}
use Rattle.lp_layout.proofs.own.functions.Given as goal

abbrev pub invariant-loop-item : goal.invariant-loop-item
invariant-loop-item l = record { is : l.count ≡ functions (map item_of (take l.item-index l.items)); small : l.count ≤ l.item-index }
