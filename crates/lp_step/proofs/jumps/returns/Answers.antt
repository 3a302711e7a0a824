use Rattle.lp_step.proofs.Moves.{done}
use Rattle.lp_step.proofs.Fits.{popped_fit}
use Rattle.lp_step.proofs.jumps.returns.Goals as goal

pub returns : goal.returns
returns c = record {
  table = λ live budget a m h fine named. done a live _ _ c.args.frame.now budget m _ h c.pop.ensures fine;
  keeps = λ live f. popped_fit live _ _ _ c.pop.ensures f;
}
