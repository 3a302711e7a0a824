use Rattle.std.proofs.Common.{rules}
use Rattle.lp_frames.proofs.Filled.{one_filled}
use Rattle.lp_frames.proofs.entry.fill.Goals as goal

pub loop-stack-preserved : goal.loop-stack-preserved
loop-stack-preserved c = record {
  filled = one_filled c.args.height _ c.loop-stack.stack.items c.push.new.stack.items c.loop-stack.invariant.filled (search rules) c.in_ok-push.ensures;
}
