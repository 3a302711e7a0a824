use Rattle.lp_step.proofs.Moves.{efun_called}
use Rattle.lp_step.proofs.calls.call_efun.Goals as goal

pub returns : goal.returns
returns c = record {
  table = λ live budget a m h fine named. efun_called a live _ c.args.frame.now budget m c.args.efun c.args.n h;
  keeps = λ live f. (f, tt);
}
