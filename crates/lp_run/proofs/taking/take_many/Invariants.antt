use Rattle.std.proofs.Common.{◌≡◌, ◌≤◌}
use Rattle.lp_step.specs.declared.next.Next.TheVariants as nexts
use Rattle.lp_run.specs.Runs.{CanRun, RunsTo, left_of}
use Rattle.lp_run.specs.Takes.{at_place}
use Rattle.lp_run.proofs.taking.take_many.Given as goal

abbrev pub invariant-taken : goal.invariant-taken
invariant-taken l = record {
  code : l.code ≡ l.frame.code.instrs;
  can : CanRun l.live l.stack.items (at_place l.frame l.at) l.left;
  came : RunsTo l.live l.initial.stack.items l.frame l.initial.budget nexts.Again l.live l.stack.items (at_place l.frame l.at) l.left;
  less : left_of (at_place l.frame l.at) l.left ≤ left_of l.frame l.initial.budget;
}

abbrev pub decreases-taken : goal.decreases-taken
decreases-taken l = left_of (at_place l.frame l.at) l.left
