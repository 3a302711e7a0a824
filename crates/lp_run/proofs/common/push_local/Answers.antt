use Rattle.std.proofs.Common.{refl}
use Rattle.lp_step.proofs.Moves.{local_pushed}
use Rattle.lp_step.proofs.Fits.{pushed_fit, got_there}
use Rattle.lp_run.specs.Takes.{at_place}
use Rattle.lp_run.proofs.common.push_local.Goals as goal

pub returns : goal.returns
returns c = (
  refl,
  λ live budget. record {
    table = λ a m h fine named. local_pushed a live _ _ (at_place c.args.frame.now c.args.at.now) budget m c.args.k _ h named c.in_ok-v.ensures c.in_ok-push.ensures;
    keeps = λ f. (pushed_fit live _ _ _ (got_there live _ _ _ c.in_ok-v.ensures f) c.in_ok-push.ensures f, tt);
  },
)
