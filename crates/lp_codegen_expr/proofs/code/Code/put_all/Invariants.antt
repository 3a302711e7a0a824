use Rattle.std.proofs.Common.{◌≡◌, take, map}
use Rattle.lp_codegen_expr.specs.declared.code.Draft.TheVariants.{Done}
use Rattle.lp_codegen_expr.specs.Drafts.{draft_of, grown}
use Rattle.lp_codegen_expr.proofs.code.Code.put_all.Given as goal

abbrev pub invariant-loop-instr : goal.invariant-loop-instr
invariant-loop-instr l = draft_of l.self ≡ grown (draft_of l.initial.self) (map Done (take l.instr-index l.instrs))
