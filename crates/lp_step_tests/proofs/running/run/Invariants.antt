use Rattle.lp_step.specs.Steps.{IsFit}
use Rattle.lp_step_tests.proofs.running.run.Given as goal

abbrev pub invariant-loop-turn : goal.invariant-loop-turn
invariant-loop-turn l = IsFit l.live l.stack.items
