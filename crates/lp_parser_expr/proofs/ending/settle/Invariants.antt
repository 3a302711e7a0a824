use Rattle.std.proofs.Common.{◌≡◌, length}
use Rattle.lp_parser_expr.specs.Machine.{settle}
use Rattle.lp_parser_expr.specs.StackView.{stack_of}
use Rattle.lp_tree.specs.TreeView.{tree_of}
use Rattle.lp_parser_expr.proofs.ending.settle.Given as goal

abbrev pub invariant-loop-frame : goal.invariant-loop-frame
invariant-loop-frame l = settle l.level (tree_of l.fn.tree.expr.value) (stack_of l.fn.stack) ≡ settle l.level (tree_of l.tree.expr.value) (stack_of l.stack)

abbrev pub decreases-loop-frame : goal.decreases-loop-frame
decreases-loop-frame l = length (stack_of l.stack)
