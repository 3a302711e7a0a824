use Rattle.std.proofs.Common.{refl}
use Rattle.lp_step.proofs.Moves.{again}
use Rattle.lp_step.proofs.jumps.jump.Goals as goal

pub returns : goal.returns
returns c = record {
  table = λ live budget a m h fine named. again a live _ _ c.args.frame.now budget m m.stack _ _ h h.sits.lies refl;
  keeps = λ live f. (f, tt);
}
