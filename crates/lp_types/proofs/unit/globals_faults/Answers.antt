use Rattle.std.proofs.Common.{◌≡◌, ◌<◌, ◌≤◌, length, get_or, map, ap, sym, subst, ◌∙◌, arith}
use Rattle.lp_tree.specs.StatementView.{declarator_of}
use Rattle.lp_types_expr.specs.Surroundings.{around_of}
use Rattle.lp_types.specs.Checks.{InGlobals}
use Rattle.lp_types.proofs.Adding.{rest_more, rest_none}
use Rattle.lp_types.proofs.CheckSteps.{global_step, globals_end}
use Rattle.lp_types.proofs.unit.globals_faults.Goals as goal

pub all-preserved : goal.all-preserved
all-preserved c =
    let xs = c.args.ones.now.items in
    let i = c.all.d-index in
    let x = c.d-item.result in
    let lt : i < length xs = omega (arith, ap length c.deref-d-items.ensures.value) in
    let is : get_or xs i x ≡ x = ap (λ l. get_or l i x) (sym c.deref-d-items.ensures.value) ∙ sym c.d-item.is in
    let now = subst (λ l. InGlobals (around_of c.args.around.now) c.args.base c.args.faults.now.items c.all.faults.items (map declarator_of xs) (map declarator_of l) c.args.vars.now c.all.vars) (rest_more xs i x lt is) c.all.invariant in
    global_step _ _ _ _ _ _ _ (declarator_of x) _ _ _ now c.in_ok-global_faults.ensures.faults c.in_ok-global_faults.ensures.names

pub returns : goal.returns
returns c =
    let xs = c.args.ones.now.items in
    let past : length xs ≤ c.all.d-index = omega (arith, ap length c.deref-d-items.ensures.value) in
    globals_end _ _ _ _ _ _ _ (subst (λ l. InGlobals (around_of c.args.around.now) c.args.base c.args.faults.now.items c.all.faults.items (map declarator_of xs) (map declarator_of l) c.args.vars.now c.all.vars) (rest_none xs c.all.d-index past) c.all.invariant)
