use Rattle.std.proofs.Common.{List, map, take}
use Rattle.lp_tree.specs.declared.keyword.Modifier.{Modifier}
use Rattle.lp_tree.specs.StatementView.{declarator_of}
use Rattle.lp_codegen_expr.specs.Drafts.{draft_of}
use Rattle.lp_codegen_flow.specs.Initialisers.{Initialises, variables_of}
use Rattle.lp_codegen_flow.proofs.globals.gen_declared.Given as goal

abbrev pub invariant-loop-one : goal.invariant-loop-one
invariant-loop-one l = (ms : List Modifier) → Initialises (variables_of ms (map declarator_of (take l.one-index l.ones.items))) l.first l.place l.scope (draft_of l.initial.into) (draft_of l.into)
