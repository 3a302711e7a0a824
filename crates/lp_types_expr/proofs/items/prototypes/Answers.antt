use Rattle.lp_types_expr.specs.NameMaps.{named}
use Rattle.lp_types_expr.proofs.Declaring.{earlier_first, prototypes_in, prototypes_snoc}
use Rattle.lp_types_expr.proofs.items.prototypes.Goals as goal

pub loop-item-preserved : goal.loop-item-preserved
loop-item-preserved c = λ w.
    earlier_first prototypes_in prototypes_snoc c.args.items.now c.loop-item.item-index c.item-item.result c.loop-item-test.true c.item-item.is (named c.loop-item.prototypes) (named c.add_prototype.new.prototypes) c.loop-item.invariant c.in_ok-add_prototype.ensures w
