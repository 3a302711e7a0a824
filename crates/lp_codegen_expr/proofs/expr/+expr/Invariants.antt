use Rattle.std.proofs.Common.{take}
use Rattle.lp_codegen_expr.specs.Names.{layout_of}
use Rattle.lp_codegen_expr.specs.Drafts.{Adds, draft_of, of_all, of_pairs, of_parts, of_scanned}
use Rattle.lp_codegen_expr.proofs.expr.+expr.Given as goal

abbrev pub invariant-gen_all-loop-e : goal.invariant-gen_all-loop-e
invariant-gen_all-loop-e l = Adds (layout_of l.scope.layout) (of_all l.scope.locals.items (take l.e-index l.all.items)) (draft_of l.initial.into) (draft_of l.into)

abbrev pub invariant-gen_scanned-loop-place : goal.invariant-gen_scanned-loop-place
invariant-gen_scanned-loop-place l = Adds (layout_of l.scope.layout) (of_scanned l.scope.locals.items (take l.place-index l.places.items)) (draft_of l.initial.into) (draft_of l.into)

abbrev pub invariant-gen_pairs-loop-pair : goal.invariant-gen_pairs-loop-pair
invariant-gen_pairs-loop-pair l = Adds (layout_of l.scope.layout) (of_pairs l.scope.locals.items (take l.pair-index l.pairs.items)) (draft_of l.initial.into) (draft_of l.into)

abbrev pub invariant-gen_parts-loop-i : goal.invariant-gen_parts-loop-i
invariant-gen_parts-loop-i l = Adds (layout_of l.scope.layout) (of_parts l.scope.locals.items (take l.i l.parts.items)) (draft_of l.initial.into) (draft_of l.into)
