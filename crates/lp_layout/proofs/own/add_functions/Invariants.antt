use Rattle.std.proofs.Common.{◌≡◌, ℕ, List, take, map}
use Rattle.lp_tree.specs.UnitView.{item_of}
use Rattle.lp_types_expr.specs.Signatures.{or_else}
use Rattle.lp_layout.specs.Layout.{functions, own_slot}
use Rattle.lp_layout.specs.Origins.{rowed}
use Rattle.lp_layout.proofs.own.add_functions.Given as goal

abbrev pub invariant-loop-item : goal.invariant-loop-item
invariant-loop-item l = record {
  counted : l.number ≡ functions (map item_of (take l.item-index l.items));
  rowed : (w : List ℕ) → rowed l.origins w ≡ or_else (rowed l.fn.origins w) (own_slot 0 l.part (map item_of (take l.item-index l.items)) w);
}
