use Rattle.lp_types_expr.specs.NameMaps.{named}
use Rattle.lp_types_expr.proofs.Declaring.{later_alone, kinds_in, kinds_snoc}
use Rattle.lp_types_expr.proofs.items.variables.Goals as goal

pub loop-item-preserved : goal.loop-item-preserved
loop-item-preserved c = λ w.
    later_alone kinds_in kinds_snoc c.args.items.now c.loop-item.item-index c.item-item.result c.loop-item-test.true c.item-item.is (named c.loop-item.kinds) (named c.add_variables.new.kinds) c.loop-item.invariant c.in_ok-add_variables.ensures w
