use Rattle.std.proofs.Common.{rules}
use Rattle.lp_beginning.proofs.Stopped.{next_done}
use Rattle.lp_beginning.proofs.feed.take.Goals as goal

pub returns-then-job-len-clause-takes : goal.returns-then-job-len-clause-takes
returns-then-job-len-clause-takes c = λ by v s. next_done c.args.job.now.kind c.args.job.now.object c.args.job.now.parts.items c.args.job.now.done by v s (search rules)
