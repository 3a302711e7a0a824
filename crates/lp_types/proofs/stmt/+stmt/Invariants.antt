use Rattle.std.proofs.Common.{drop, map}
use Rattle.lp_tree.specs.Pieces.{parts_of}
use Rattle.lp_tree.specs.StatementView.{stmt_of, stmt_trees}
use Rattle.lp_types_expr.specs.Surroundings.{around_of}
use Rattle.lp_types.specs.Loops.{InStmts, InParts}
use Rattle.lp_types.proofs.stmt.+stmt.Given as goal

abbrev pub invariant-stmts_faults-all : goal.invariant-stmts_faults-all
invariant-stmts_faults-all l = InStmts (around_of l.around) l.initial.scopes l.scopes l.initial.faults.items l.faults.items (stmt_trees (map stmt_of l.stmts.items)) (stmt_trees (map stmt_of (drop l.stmt-index l.stmts.items)))

abbrev pub invariant-parts_faults-all : goal.invariant-parts_faults-all
invariant-parts_faults-all l = InParts (around_of l.around) l.initial.scopes l.scopes l.initial.faults.items l.faults.items (parts_of l.parts.items) (parts_of (drop l.part-index l.parts.items)) l.labels
