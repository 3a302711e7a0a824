use Rattle.std.proofs.Common.{◌≡◌, ℕ, List, take, map}
use Rattle.lp_tree.specs.UnitView.{item_of}
use Rattle.lp_types_expr.specs.NameMaps.{named}
use Rattle.lp_types_expr.specs.Signatures.{own_function}
use Rattle.lp_types_expr.proofs.items.functions.Given as goal

abbrev pub invariant-loop-item : goal.invariant-loop-item
invariant-loop-item l = (w : List ℕ) → named l.functions w ≡ own_function (map item_of (take l.item-index l.items)) w
