use Rattle.std.proofs.Common.{◌≡◌, ◌<◌, length, get_or, ap, sym, subst, ◌∙◌, arith}
use Rattle.lp_types_expr.specs.Surroundings.{around_of}
use Rattle.lp_types.specs.Checks.{InParams}
use Rattle.lp_types.proofs.Adding.{rest_more}
use Rattle.lp_types.proofs.CheckSteps.{param_step}
use Rattle.lp_types.proofs.unit.params_faults.Goals as goal

pub all-preserved : goal.all-preserved
all-preserved c =
    let xs = c.args.params.now.items in
    let i = c.all.param-index in
    let x = c.param-item.result in
    let lt : i < length xs = omega (arith, ap length c.deref-param-items.ensures.value) in
    let is : get_or xs i x ≡ x = ap (λ l. get_or l i x) (sym c.deref-param-items.ensures.value) ∙ sym c.param-item.is in
    let now = subst (λ l. InParams (around_of c.args.around.now) c.args.faults.now.items c.all.faults.items xs l c.all.earlier) (rest_more xs i x lt is) c.all.invariant in
    param_step _ _ _ _ _ _ x _ _ now c.in_ok-param_faults.ensures.faults c.in_ok-param_faults.ensures.names
