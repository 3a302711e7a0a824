use Rattle.std.proofs.Common.{◌≡◌, refl, rules, length}
use Rattle.lp_step.proofs.Moves.{one_again}
use Rattle.lp_step.proofs.Fits.{pushed_fit, got_there}
use Rattle.lp_run.specs.Takes.{at_place}
use Rattle.lp_run.proofs.common.again_one.Goals as goal

pub returns : goal.returns
returns c = let n : c.len.result ≡ length c.args.stack.now.items = search rules in (
  refl,
  λ live budget. record {
    table = λ a m h fine named. one_again a live _ _ (at_place c.args.frame.now c.args.at.now) budget m c.in_ok-v.v _ n h c.in_ok-v.ensures c.in_ok-push.ensures fine;
    keeps = λ f. (pushed_fit live _ _ _ (got_there live _ _ _ c.in_ok-v.ensures f) c.in_ok-push.ensures f, tt);
  },
)
