use Rattle.std.proofs.Common.{◌≡◌, ◌≤◌, ℕ, List, length, take, drop}
use Rattle.lp_types_expr.specs.Signatures.{or_else}
use Rattle.lp_layout.specs.Layout.{last_slot, parts_of}
use Rattle.lp_layout.specs.Origins.{rowed}
use Rattle.lp_layout.proofs.shown.add_shown.Given as goal

abbrev pub invariant-loop-left : goal.invariant-loop-left
invariant-loop-left l = record {
  inside : l.left ≤ length l.parents;
  first : l.first ≡ parts_of (take l.left l.parents);
  rowed : (w : List ℕ) → rowed l.origins w ≡ or_else (rowed l.fn.origins w) (last_slot l.bodies (drop l.left l.parents) (parts_of (take l.left l.parents)) w);
}

abbrev pub decreases-loop-left : goal.decreases-loop-left
decreases-loop-left l = l.left
