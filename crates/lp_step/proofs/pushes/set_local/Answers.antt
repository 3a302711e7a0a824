use Rattle.std.proofs.Common.{◌≡◌, rules, length}
use Rattle.lp_step.proofs.Moves.{local_set}
use Rattle.lp_step.proofs.Fits.{set_fit, got_there}
use Rattle.lp_step.proofs.pushes.set_local.Goals as goal

pub returns : goal.returns
returns c = let n : c.len.result ≡ length c.args.stack.now.items = search rules in record {
  table = λ live budget a m h fine named. local_set a live _ _ c.args.frame.now budget m c.args.k c.in_ok-v.v _ n h named fine c.in_ok-v.ensures c.write_at.ensures;
  keeps = λ live f. (set_fit live _ _ _ _ (got_there live _ _ _ c.in_ok-v.ensures f) c.write_at.ensures f, tt);
}
