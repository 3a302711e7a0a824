use Rattle.std.proofs.Common.{◌∙◌}
use Rattle.lp_sessions.proofs.Outputs.{takes_more}
use Rattle.lp_sessions.proofs.each.take_each.Goals as goal

pub loop-out-preserved : goal.loop-out-preserved
loop-out-preserved c = record {
  taken = takes_more c.args.outs.now c.loop-out.out-index _ c.out-item.result _ _ _ c.loop-out-test.true c.out-item.is c.loop-out.invariant.taken c.in_ok-take_one.ensures.ok;
  numbers = c.take_one.ensures.numbers ∙ c.loop-out.invariant.numbers;
  index = c.take_one.ensures.index;
}
