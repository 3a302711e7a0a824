use Rattle.lp_step.proofs.Moves.{local_pushed}
use Rattle.lp_step.proofs.Fits.{pushed_fit, got_there}
use Rattle.lp_step.proofs.pushes.push_local.Goals as goal

pub returns : goal.returns
returns c = record {
  table = λ live budget a m h fine named. local_pushed a live _ _ c.args.frame.now budget m c.args.k _ h named c.in_ok-v.ensures c.in_ok-push.ensures;
  keeps = λ live f. (pushed_fit live _ _ _ (got_there live _ _ _ c.in_ok-v.ensures f) c.in_ok-push.ensures f, tt);
}
