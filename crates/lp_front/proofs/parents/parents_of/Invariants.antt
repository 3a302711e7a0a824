use Rattle.std.proofs.Common.{◌≡◌, map, take}
use Rattle.lp_tree.specs.UnitView.{item_of}
use Rattle.lp_front.specs.Names.{parents_in}
use Rattle.lp_front.proofs.parents.parents_of.Given as goal

abbrev pub invariant-loop-item : goal.invariant-loop-item
invariant-loop-item l = l.all.items ≡ parents_in (map item_of (take l.item-index l.items))
