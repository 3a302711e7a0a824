use Rattle.std.proofs.Common.{◌≡◌, map, take}
use Rattle.lp_codegen_expr.specs.declared.code.Draft.TheVariants.{Done}
use Rattle.lp_codegen_unit.proofs.finish.instrs_of.Given as goal

abbrev pub invariant-loop-draft : goal.invariant-loop-draft
invariant-loop-draft l = map Done l.instrs.items ≡ take l.draft-index l.drafts
