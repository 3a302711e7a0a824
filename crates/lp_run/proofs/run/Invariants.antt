use Rattle.lp_step.specs.declared.next.Next.TheVariants as nexts
use Rattle.lp_step.specs.Steps.{KeepsVariables}
use Rattle.lp_run.specs.Runs.{CanRun, RunsTo, left_of}
use Rattle.lp_run.proofs.run.Given as goal

abbrev pub invariant-steps : goal.invariant-steps
invariant-steps l = record {
  can : CanRun l.live l.stack.items l.frame l.budget;
  home : KeepsVariables l.initial.live.objects l.live.objects;
  came : RunsTo l.initial.live l.initial.stack.items l.initial.frame l.initial.budget nexts.Again l.live l.stack.items l.frame l.budget;
}

abbrev pub decreases-steps : goal.decreases-steps
decreases-steps l = left_of l.frame l.budget
