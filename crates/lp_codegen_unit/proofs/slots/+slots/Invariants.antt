use Rattle.std.proofs.Common.{map, drop}
use Rattle.lp_tree.specs.Pieces.{parts_of}
use Rattle.lp_tree.specs.StatementView.{stmt_of, stmt_trees}
use Rattle.lp_codegen_unit.specs.Used.{AllLeft, PartsLeft}
use Rattle.lp_codegen_unit.proofs.slots.+slots.Given as goal

abbrev pub invariant-slots_in_all-loop-s : goal.invariant-slots_in_all-loop-s
invariant-slots_in_all-loop-s l = AllLeft (stmt_trees (map stmt_of (drop l.s-index l.stmts.items))) (stmt_trees (map stmt_of l.stmts.items)) l.first l.used

abbrev pub invariant-slots_in_parts-loop-part : goal.invariant-slots_in_parts-loop-part
invariant-slots_in_parts-loop-part l = PartsLeft (parts_of (drop l.part-index l.parts.items)) (parts_of l.parts.items) l.first l.used
