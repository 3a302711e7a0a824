use Rattle.lp_frames.proofs.Filled.{locals_begun}
use Rattle.lp_frames.proofs.entry.begin_locals.Goals as goal

pub returns : goal.returns
returns c = locals_begun c.args.bottom c.args.params c.args.locals c.args.stack.now.items c.truncate.new.self.items c.fill.new.stack.items c.requires.bottom c.truncate.ensures.items c.in_ok-fill.ensures
