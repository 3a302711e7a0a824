use Rattle.std.proofs.Common.{take}
use Rattle.lp_language.specs.Scope.{slots_from}
use Rattle.lp_codegen_expr.specs.Drafts.{draft_of}
use Rattle.lp_codegen_flow.specs.Cleared.{Cleared, names_in}
use Rattle.lp_codegen_flow.proofs.clears.clear_each.Given as goal

abbrev pub invariant-loop-one : goal.invariant-loop-one
invariant-loop-one l = Cleared (slots_from l.first (names_in (take l._one-index l.local.ones.items))) l.first l._one-index l.slot (draft_of l.initial.into) (draft_of l.into)
