use Rattle.std.proofs.Common.{◌≡◌, ◌++◌, map, take}
use Rattle.lp_tree.specs.UnitView.{item_of}
use Rattle.lp_suite.specs.Suite.{tests_in}
use Rattle.lp_suite.proofs.names.add_items.Given as goal

abbrev pub invariant-loop-item : goal.invariant-loop-item
invariant-loop-item l = l.entries.items ≡ l.fn.entries.items ++ tests_in l.path (map item_of (take l.item-index l.items))
