use Rattle.std.proofs.Common.{◌≡◌, ◌<◌, [], length, get_or, map, ap, sym, subst, ◌∙◌, arith}
use Rattle.lp_tree.specs.UnitView.{item_of}
use Rattle.lp_types_expr.specs.Surroundings.{around_of}
use Rattle.lp_types.specs.Checks.{InItems}
use Rattle.lp_types.proofs.Adding.{rest_more}
use Rattle.lp_types.proofs.CheckSteps.{items_none, item_step}
use Rattle.lp_types.proofs.unit.items_faults.Goals as goal

pub all-init : goal.all-init
all-init c = items_none _ _ _ _ _ c.new-faults.ensures.items c.new-funs.ensures c.new-vars.ensures

pub all-preserved : goal.all-preserved
all-preserved c =
    let xs = c.args.unit.now.items.items in
    let i = c.all.item-index in
    let x = c.item-item.result in
    let lt : i < length xs = omega (arith, ap length c.deref-item-items.ensures.value) in
    let is : get_or xs i x ≡ x = ap (λ l. get_or l i x) (sym c.deref-item-items.ensures.value) ∙ sym c.item-item.is in
    let now = subst (λ l. InItems (around_of c.args.around.now) [] c.all.faults.items (map item_of xs) (map item_of l) c.all.funs c.all.vars) (rest_more xs i x lt is) c.all.invariant in
    item_step _ _ _ _ _ _ (item_of x) _ _ _ _ now c.in_ok-item_faults.ensures
