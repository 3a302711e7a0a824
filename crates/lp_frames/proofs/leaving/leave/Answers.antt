use Rattle.lp_frames.proofs.Left.{returned, runs_on}
use Rattle.lp_frames.proofs.leaving.leave.Goals as goal

pub returns-clause-returns : goal.returns-clause-returns
returns-clause-returns c = returned c.args.under c.args.v c.args.stack.now.items c.args.frame.now c.cut.new.stack.items c.push.new.stack.items c.cut.ensures.items c.in_ok-push.ensures

pub returns-clause-runs : goal.returns-clause-runs
returns-clause-runs c = runs_on c.args.under c.args.v c.args.stack.now.items c.args.frame.now c.cut.new.stack.items c.push.new.stack.items c.cut.ensures.items c.in_ok-push.ensures
