use Rattle.lp_step.proofs.Moves.{caught_off}
use Rattle.lp_step.proofs.jumps.catch_end.Goals as goal

pub returns : goal.returns
returns c = record {
  table = λ live budget a m h fine named. caught_off a live _ c.args.frame.now _ budget m _ h c.pop_catch-caught.ensures fine;
  keeps = λ live f. (f, tt);
}
