use Rattle.lp_layout.specs.Origins.{rowed}
use Rattle.lp_layout.proofs.Makes.{prototype_next}
use Rattle.lp_layout.proofs.own.add_prototypes.Goals as goal

pub loop-item-preserved : goal.loop-item-preserved
loop-item-preserved c =
    prototype_next c.args.part c.args.items.now c.loop-item.item-index c.item-item.result c.loop-item-test.true c.item-item.is (rowed c.args.origins.now) (rowed c.loop-item.origins) (rowed c.add_prototype.new.origins) c.loop-item.invariant c.in_ok-add_prototype.ensures
