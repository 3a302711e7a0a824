use Rattle.lp_step.proofs.Fits.{popped_fit}
use Rattle.lp_step.proofs.Switched.{switched}
use Rattle.lp_step.proofs.switches.switch_on.Goals as goal

pub returns : goal.returns
returns c = record {
  table = λ budget a m h fine named. switched a c.args.live.now _ _ c.args.frame.now budget m c.args.k _ c.pop.result c.into_read-v.result h c.pop.ensures c.into_read-v.ensures c.requires.there c.place_at-frame.ensures fine;
  keeps = λ f. ((popped_fit c.args.live.now _ _ _ c.pop.ensures f).0, tt);
}
