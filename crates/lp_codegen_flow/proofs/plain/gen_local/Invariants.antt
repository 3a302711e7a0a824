use Rattle.std.proofs.Common.{map, take}
use Rattle.lp_tree.specs.StatementView.{declarator_of}
use Rattle.lp_codegen_expr.specs.Drafts.{draft_of}
use Rattle.lp_codegen_flow.specs.Flows.{OnesStand}
use Rattle.lp_codegen_flow.proofs.plain.gen_local.Given as goal

abbrev pub invariant-loop-one : goal.invariant-loop-one
invariant-loop-one l = OnesStand (map declarator_of (take l.one-index l.local.ones.items)) l.initial.scope l.scope (draft_of l.initial.into) (draft_of l.into)
