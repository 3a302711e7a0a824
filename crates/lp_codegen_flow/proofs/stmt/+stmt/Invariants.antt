use Rattle.std.proofs.Common.{map, take}
use Rattle.lp_tree.specs.StatementView.{stmt_of, stmt_trees}
use Rattle.lp_codegen_expr.specs.Drafts.{draft_of}
use Rattle.lp_codegen_flow.specs.Flows.{AllStand}
use Rattle.lp_codegen_flow.specs.Switches.{PartsStand}
use Rattle.lp_codegen_flow.proofs.stmt.+stmt.Given as goal

abbrev pub invariant-gen_stmts-loop-s : goal.invariant-gen_stmts-loop-s
invariant-gen_stmts-loop-s l = AllStand (stmt_trees (map stmt_of (take l.s-index l.stmts.items))) l.initial.scope l.scope (draft_of l.initial.into) (draft_of l.into)

abbrev pub invariant-gen_parts-loop-part : goal.invariant-gen_parts-loop-part
invariant-gen_parts-loop-part l = PartsStand (take l.part-index l.parts.items) l.labels l.initial.scope l.scope (draft_of l.initial.into) (draft_of l.into)
