use Rattle.std.proofs.Common.{◌∙◌, ap, take, arith}
use Rattle.lp_jobs.specs.Jobs.{after_starting, jobs_from}
use Rattle.lp_jobs.proofs.Handed.{all-started, first-started, told-truth}
use Rattle.lp_jobs.proofs.board.steps.Goals as goal

pub jobs-init : goal.jobs-init
jobs-init g c = record {
  within = omega (arith, c.requires.first);
  started = first-started _ c.args.entries.now c.args.input.now c.args.board.now.handed c.requires.first;
  truth = λ t. t;
  heard = λ jobs e t a. a;
}

pub jobs-preserved : goal.jobs-preserved
jobs-preserved g c =
    let i = c.jobs.invariant in
    record {
      within = c.in_ok-step.ensures.within i.within;
      started = c.in_ok-step.ensures.started _ i.started;
      truth = λ t. i.truth (c.in_ok-step.ensures.truth t);
      heard = λ jobs e t a.
          c.in_ok-step.ensures.holds jobs (i.started ∙ ap (λ o. after_starting o (jobs_from 0 (take c.jobs.board.handed c.args.entries.now) c.args.input.now)) e) t (i.heard jobs e (c.in_ok-step.ensures.truth t) a);
    }

pub returns-clause-started : goal.returns-clause-started
returns-clause-started g c = all-started _ _ c.args.entries.now c.args.input.now c.jobs.board.handed (omega arith) c.jobs.invariant.started

pub returns-clause-holds : goal.returns-clause-holds
returns-clause-holds g c = λ t a. let x = told-truth _ _ t in c.jobs.invariant.heard x.0 x.1 x.2 a
