use Rattle.std.proofs.Common.{arith}
use Rattle.lp_layout.proofs.Makes.{functions_next}
use Rattle.lp_layout.proofs.own.functions.Goals as goal

pub loop-item-preserved : goal.loop-item-preserved
loop-item-preserved c =
    let n = functions_next c.args.items.now c.loop-item.item-index c.item-item.result c.loop-item-test.true c.item-item.is in
    record { is = omega (arith, n, c.loop-item.invariant.is, c.bodies.ensures.is); small = omega (arith, c.loop-item.invariant.small, c.bodies.ensures.few) }
