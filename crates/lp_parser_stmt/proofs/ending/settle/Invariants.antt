use Rattle.std.proofs.Common.{◌≡◌}
use Rattle.lp_tree.specs.StatementView.{stmt_of}
use Rattle.lp_parser_stmt.specs.Depth.{depth}
use Rattle.lp_parser_stmt.specs.Machine.{settle}
use Rattle.lp_parser_stmt.specs.StackView.{stack_of}
use Rattle.lp_parser_stmt.proofs.ending.settle.Given as goal

abbrev pub invariant-loop-next : goal.invariant-loop-next
invariant-loop-next l = settle l.is_else (stmt_of l.fn.stmt.value) (stack_of l.fn.stack) ≡ settle l.is_else (stmt_of l.stmt.value) (stack_of l.stack)

abbrev pub decreases-loop-next : goal.decreases-loop-next
decreases-loop-next l = depth (stack_of l.stack)
