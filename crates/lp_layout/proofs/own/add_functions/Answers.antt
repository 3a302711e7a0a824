use Rattle.std.proofs.Common.{◌+◌, arith}
use Rattle.lp_layout.specs.Origins.{rowed}
use Rattle.lp_layout.proofs.Makes.{functions_least, functions_next, own_next}
use Rattle.lp_layout.proofs.own.add_functions.Goals as goal

pub overflow_add-number : goal.overflow_add-number
overflow_add-number c =
    let n = functions_next c.args.items.now c.loop-item.item-index c.item-item.result c.loop-item-test.true c.item-item.is in
    let h = functions_least c.args.items.now (c.loop-item.item-index + 1) in
    omega (arith, n, h, c.loop-item.invariant.counted, c.bodies-number.ensures.is, c.requires)

pub loop-item-preserved : goal.loop-item-preserved
loop-item-preserved c =
    let n = functions_next c.args.items.now c.loop-item.item-index c.item-item.result c.loop-item-test.true c.item-item.is in
    record {
      counted = omega (arith, n, c.loop-item.invariant.counted, c.bodies-number.ensures.is);
      rowed = own_next c.args.part c.args.items.now c.loop-item.item-index c.item-item.result c.loop-item-test.true c.item-item.is c.loop-item.number c.loop-item.invariant.counted (rowed c.args.origins.now) (rowed c.loop-item.origins) (rowed c.add_function.new.origins) c.loop-item.invariant.rowed c.in_ok-add_function.ensures;
    }
