use Rattle.std.proofs.Common.{◌≡◌, ◌≤◌, List, Some, length, take}
use Rattle.lp_jobs.specs.Jobs.{AreTrue, Job, after_starting, jobs_from, left}
use Rattle.lp_jobs.proofs.board.steps.Given as goal

-- the first places were passed, and what was heard so far is true
abbrev pub invariant-jobs : goal.invariant-jobs
invariant-jobs g l = record {
  within : l.board.handed ≤ length l.entries;
  started : g.P.Spawner.started l.spawn ≡ after_starting (g.P.Spawner.started l.fn.spawn) (jobs_from 0 (take l.board.handed l.entries) l.input);
  truth : g.P.Spawner.is_true l.spawn → g.P.Spawner.is_true l.fn.spawn;
  heard : (jobs : List Job) → g.P.Spawner.started l.fn.spawn ≡ Some jobs → g.P.Spawner.is_true l.spawn → AreTrue l.entries l.input l.fn.board.verdicts.items → AreTrue l.entries l.input l.board.verdicts.items;
}

-- a place is passed, or a job less runs
abbrev pub decreases-jobs : goal.decreases-jobs
decreases-jobs g l = left (length l.entries) l.board.handed (length l.board.running.items)
