use Rattle.std.proofs.Common.{arith, length}
use Rattle.lp_driver.proofs.Known.{all_known, known_less, known_more}
use Rattle.lp_driver.proofs.knowing.knows_all.Goals as goal

pub loop-n-preserved : goal.loop-n-preserved
loop-n-preserved c = known_more c.args.live.now c.loop-n.n c.loop-n.invariant (c.is_known.ensures c.if-not-is_known.false)

pub returns : goal.returns
returns c = λ t. all_known c.args.live.now (known_less c.args.live.now c.loop-n.n (length c.args.live.now.objects) c.loop-n.invariant (omega (arith, c.loop-n-test.false, c.len-n-end.ensures)))
