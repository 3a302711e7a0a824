use Rattle.lp_step.proofs.Moves.{called}
use Rattle.lp_step.proofs.calls.call_simul.Goals as goal

pub returns : goal.returns
returns c = record {
  table = λ live budget a m h fine named. called a live _ c.args.frame.now budget m _ c.args.n h;
  keeps = λ live f. (f, tt);
}
