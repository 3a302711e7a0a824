use Rattle.std.proofs.Common.{◌≡◌, rules, length}
use Rattle.lp_step.proofs.Moves.{one_again}
use Rattle.lp_step.proofs.Fits.{pushed_fit, got_there}
use Rattle.lp_step.proofs.pushes.again_one.Goals as goal

pub returns : goal.returns
returns c = let n : c.len.result ≡ length c.args.stack.now.items = search rules in record {
  table = λ live budget a m h fine named. one_again a live _ _ c.args.frame.now budget m c.in_ok-v.v _ n h c.in_ok-v.ensures c.in_ok-push.ensures fine;
  keeps = λ live f. (pushed_fit live _ _ _ (got_there live _ _ _ c.in_ok-v.ensures f) c.in_ok-push.ensures f, tt);
}
