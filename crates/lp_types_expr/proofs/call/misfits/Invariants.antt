use Rattle.std.proofs.Common.{◌≡◌, ◌++◌, drop, map}
use Rattle.lp_tree.specs.Trees.{trees}
use Rattle.lp_tree.specs.TreeView.{tree_of}
use Rattle.lp_types_expr.specs.ExprFaults.{misfits, types_of}
use Rattle.lp_types_expr.specs.Scopes.{visible}
use Rattle.lp_types_expr.specs.Surroundings.{around_of}
use Rattle.lp_types_expr.specs.Walk.{all_at}
use Rattle.lp_types_expr.proofs.call.misfits.Given as goal

abbrev pub invariant-loop-i : goal.invariant-loop-i
invariant-loop-i l = l.initial.faults.items ++ all_at l.line (misfits l.params (types_of (around_of l.around) (visible l.scopes) (trees (map tree_of l.args))))
    ≡ l.faults.items ++ all_at l.line (misfits (drop l.i l.params) (types_of (around_of l.around) (visible l.scopes) (trees (map tree_of (drop l.i l.args)))))
