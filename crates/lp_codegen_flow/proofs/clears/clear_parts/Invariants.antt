use Rattle.std.proofs.Common.{take}
use Rattle.lp_codegen_expr.specs.Drafts.{draft_of}
use Rattle.lp_codegen_flow.proofs.Switching.{PartsClear}
use Rattle.lp_codegen_flow.proofs.clears.clear_parts.Given as goal

abbrev pub invariant-loop-part : goal.invariant-loop-part
invariant-loop-part l = PartsClear (take l.part-index l.parts.items) l.first l.slot (draft_of l.initial.into) (draft_of l.into)
