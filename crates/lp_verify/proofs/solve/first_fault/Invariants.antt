use Rattle.lp_verify.specs.Fails.{NoneFails}
use Rattle.lp_verify.proofs.solve.first_fault.Given as goal

abbrev pub invariant-loop-at : goal.invariant-loop-at
invariant-loop-at l = NoneFails l.body l.at
