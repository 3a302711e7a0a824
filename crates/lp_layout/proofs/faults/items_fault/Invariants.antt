use Rattle.std.proofs.Common.{◌≡◌, ◌≤◌, [], length, take, drop, map}
use Rattle.lp_tree.specs.UnitView.{item_of}
use Rattle.lp_tree.specs.declared.fault.FaultKind.TheVariants.{TooManyNames}
use Rattle.lp_types_expr.specs.ExprFaults.{when}
use Rattle.lp_layout.specs.LayoutFaults.{first_fault, items_layout, limits}
use Rattle.lp_layout.specs.Standing.{Knows}
use Rattle.lp_layout.proofs.faults.items_fault.Given as goal

abbrev pub invariant-loop-i : goal.invariant-loop-i
invariant-loop-i l = record {
  inside : l.passed ≤ length l.parents;
  knows : Knows (take l.passed l.parents) l.known;
  rest : first_fault (items_layout limits (when l.fn.is_large TooManyNames) [] l.parents (map item_of l.items)) ≡ first_fault (items_layout limits (when l.is_whole TooManyNames) (take l.passed l.parents) (drop l.passed l.parents) (map item_of (drop l.i l.items)));
}
