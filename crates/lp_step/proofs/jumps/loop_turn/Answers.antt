use Rattle.lp_step.proofs.Moves.{turn_spent, turn_on}
use Rattle.lp_step.proofs.jumps.loop_turn.Goals as goal

pub returns-then-is_paid : goal.returns-then-is_paid
returns-then-is_paid c = record {
  table = λ live a m h fine named. turn_on a live _ c.args.frame.now _ _ m _ h c.if-is_paid.true c.pay-is_paid.ensures;
  keeps = λ live f. (f, tt);
}

pub returns : goal.returns
returns c = record {
  table = λ live a m h fine named. turn_spent a live _ c.args.frame.now _ _ m _ h c.if-is_paid.false c.pay-is_paid.ensures;
  keeps = λ live f. (f, tt);
}
