use Rattle.lp_step.proofs.Moves.{text_pushed}
use Rattle.lp_step.proofs.Fits.{pushed_fit}
use Rattle.lp_step.proofs.pushes.push_text.Goals as goal

pub returns : goal.returns
returns c = record {
  table = λ live budget a m h fine named. text_pushed a live _ _ c.args.frame.now budget m c.args.k _ h c.in_ok-text.ensures c.in_ok-push.ensures;
  keeps = λ live f. (pushed_fit live _ _ _ tt c.in_ok-push.ensures f, tt);
}
