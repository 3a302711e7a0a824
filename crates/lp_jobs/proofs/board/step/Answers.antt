use Rattle.std.proofs.Common.{◌++◌, take}
use Rattle.lp_jobs.specs.Jobs.{jobs_from}
use Rattle.lp_jobs.proofs.Handed.{hands-over}
use Rattle.lp_jobs.proofs.board.step.Goals as goal

pub returns-clause-holds : goal.returns-clause-holds
returns-clause-holds g c = λ jobs e t a.
    let h = c.args.board.now.handed in
    let es = c.args.entries.now in
    let input = c.args.input.now in
    c.hear_next.ensures.holds (jobs ++ jobs_from 0 (take h es) input) input e (λ i l. hands-over jobs es h i input l) t a
