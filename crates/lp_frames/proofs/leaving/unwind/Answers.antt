use Rattle.lp_frames.proofs.Left.{unwound, unwound_on}
use Rattle.lp_frames.proofs.leaving.unwind.Goals as goal

pub returns-clause-unwinds : goal.returns-clause-unwinds
returns-clause-unwinds c =
    unwound c.in_ok-is_caught.is_caught c.args.under c.args.v c.args.stack.now.items c.args.frame.now c.cut.new.stack.items c.catch_value.new.stack.items c.args.caller.now c.catch_value.new.frame c.cut.ensures.cuts
    c.in_ok-is_caught.ensures.table

pub returns-clause-keeps : goal.returns-clause-keeps
returns-clause-keeps c = λ live there fit. c.in_ok-is_caught.ensures.keeps live there (c.cut.ensures.keeps live fit)

pub returns-clause-runs : goal.returns-clause-runs
returns-clause-runs c =
    unwound_on c.in_ok-is_caught.is_caught c.args.under c.args.v c.args.stack.now.items c.args.frame.now c.catch_value.new.stack.items c.args.caller.now c.catch_value.new.frame (returns-clause-unwinds c) (returns-clause-keeps c)
