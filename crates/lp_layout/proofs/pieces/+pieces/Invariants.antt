use Rattle.std.proofs.Common.{◌≡◌, ◌+◌, ◌++◌, drop, map}
use Rattle.lp_tree.specs.Pieces.{parts_of}
use Rattle.lp_tree.specs.StatementView.{stmt_of, stmt_trees}
use Rattle.lp_layout.specs.Pieces.{parts_pieces, seen, stmts_pieces}
use Rattle.lp_layout.proofs.pieces.+pieces.Given as goal

abbrev pub invariant-add_stmts-loop-stmt : goal.invariant-add_stmts-loop-stmt
invariant-add_stmts-loop-stmt l = seen l.initial.into.items ++ stmts_pieces (stmt_trees (map stmt_of l.stmts)) ≡ seen l.into.items ++ stmts_pieces (stmt_trees (map stmt_of (drop l.stmt-index l.stmts)))

abbrev pub invariant-add_parts-loop-part : goal.invariant-add_parts-loop-part
invariant-add_parts-loop-part l = seen l.initial.into.items ++ parts_pieces (parts_of l.parts) ≡ seen l.into.items ++ parts_pieces (parts_of (drop l.part-index l.parts))
