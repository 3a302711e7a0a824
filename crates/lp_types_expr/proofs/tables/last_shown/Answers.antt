use Rattle.lp_types_expr.specs.NameMaps.{named}
use Rattle.lp_types_expr.specs.Signatures.{last_shown}
use Rattle.lp_types_expr.proofs.Declaring.{later_alone}
use Rattle.lp_types_expr.proofs.Showing.{shown_snoc}
use Rattle.lp_types_expr.proofs.tables.last_shown.Goals as goal

pub loop-parent-preserved : goal.loop-parent-preserved
loop-parent-preserved c = λ w.
    later_alone (last_shown c.args.bodies) (shown_snoc c.args.bodies) c.args.parents.now c.loop-parent.parent-index c.parent-item.result c.loop-parent-test.true c.parent-item.is (named c.loop-parent.map) (named c.add_slots.new.map) c.loop-parent.invariant c.in_ok-add_slots.ensures w
