use Rattle.std.proofs.Common.{◌≡◌, rules, length}
use Rattle.lp_step.proofs.Moves.{caught_on}
use Rattle.lp_step.proofs.jumps.catch_begin.Goals as goal

pub returns : goal.returns
returns c = let n : c.len.result ≡ length c.args.stack.now.items = search rules in record {
  table = λ live budget a m h fine named. caught_on a live _ c.args.frame.now _ budget m c.args.to _ h c.in_ok-push_catch.ensures n;
  keeps = λ live f. (f, tt);
}
