use Rattle.std.proofs.Common.{[], drop, map}
use Rattle.lp_tree.specs.UnitView.{item_of}
use Rattle.lp_types_expr.specs.Surroundings.{around_of}
use Rattle.lp_types.specs.Checks.{InItems}
use Rattle.lp_types.proofs.unit.items_faults.Given as goal

abbrev pub invariant-all : goal.invariant-all
invariant-all l = InItems (around_of l.around) [] l.faults.items (map item_of l.unit.items.items) (map item_of (drop l.item-index l.unit.items.items)) l.funs l.vars
