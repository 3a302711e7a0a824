use Rattle.std.proofs.Common.{refl}
use Rattle.lp_step.proofs.Moves.{turn_on}
use Rattle.lp_run.specs.Takes.{at_place}
use Rattle.lp_run.proofs.Taken.{spent_one}
use Rattle.lp_run.proofs.common.loop_turn.Goals as goal

pub returns-then-is_paid : goal.returns-then-is_paid
returns-then-is_paid c = λ live. record {
  table = λ a m h fine named. turn_on a live _ (at_place c.args.frame.now c.args.at.now) _ _ m _ h c.if-is_paid.true c.pay-is_paid.ensures;
  keeps = λ f. (f, tt);
}

pub returns : goal.returns
returns c = λ live. (refl, refl, spent_one _ _ _ c.if-is_paid.false c.pay-is_paid.ensures)
