use Rattle.lp_frames.proofs.Left.{cuts}
use Rattle.lp_frames.proofs.leaving.cut.Goals as goal

pub returns-clause-cuts : goal.returns-clause-cuts
returns-clause-cuts c = cuts c.args.under c.args.stack.now.items c.args.frame.now c.truncate.new.self.items c.truncate.ensures.items
