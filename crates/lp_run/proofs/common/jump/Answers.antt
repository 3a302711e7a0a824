use Rattle.std.proofs.Common.{refl}
use Rattle.lp_step.proofs.Moves.{again}
use Rattle.lp_run.specs.Takes.{at_place}
use Rattle.lp_run.proofs.common.jump.Goals as goal

pub returns : goal.returns
returns c = λ live budget. record {
  table = λ a m h fine named. again a live _ _ (at_place c.args.frame.now c.args.at.now) budget m m.stack _ _ h h.sits.lies refl;
  keeps = λ f. (f, tt);
}
