use Rattle.lp_codegen_flow.proofs.Leading.{LedUpTo}
use Rattle.lp_codegen_flow.proofs.led.lead.Given as goal

abbrev pub invariant-loop-k : goal.invariant-loop-k
invariant-loop-k l = LedUpTo l.from l.k l.out l.again l.initial.code.items l.code.items
