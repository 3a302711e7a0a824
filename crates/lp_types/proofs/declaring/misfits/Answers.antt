use Rattle.std.proofs.Common.{◌≡◌, ◌<◌, ◌++◌, ◌∷◌, [], length, get_or, drop, map, ap, sym, ◌∙◌, ◌+◌, arith}
use Rattle.lp_tree.specs.StatementView.{declarator_of}
use Rattle.lp_types_expr.specs.ExprFaults.{assignments_if}
use Rattle.lp_types_expr.specs.Scopes.{declaring, visible}
use Rattle.lp_types_expr.specs.Surroundings.{around_of}
use Rattle.lp_types_expr.specs.Walk.{all_at}
use Rattle.lp_types.specs.TypeFaults.{declarators_assignments, local_of, locals_of}
use Rattle.lp_types.proofs.Adding.{consumed_at, rest_more}
use Rattle.lp_types.proofs.Seen.{declared_more}
use Rattle.lp_types.proofs.declaring.misfits.Goals as goal

pub ones-preserved : goal.ones-preserved
ones-preserved c =
    let a = around_of c.args.around.now in
    let b = c.args.local.now.base in
    let xs = c.args.local.now.ones.items in
    let i = c.ones.d-index in
    let x = c.d-item.result in
    let sc = c.ones.scopes in
    let lt : i < length xs = omega (arith, ap length c.deref-d-items.ensures.value) in
    let is : get_or xs i x ≡ x = ap (λ l. get_or l i x) (sym c.deref-d-items.ensures.value) ∙ sym c.d-item.is in
    let rest = rest_more xs i x lt is in
    let ds = map declarator_of (drop (i + 1) xs) in
    record {
      faults = c.ones.invariant.faults
          ∙ ap (λ l. c.ones.faults.items ++ all_at c.args.line (declarators_assignments a sc b (map declarator_of l))) rest
          ∙ consumed_at c.args.line c.ones.faults.items (assignments_if a (visible sc) (declarator_of x).value) (declarators_assignments a (declaring sc (local_of b (declarator_of x) ∷ [])) b ds) c.one_misfits.new.faults.items c.in_ok-one_misfits.ensures.faults
          ∙ ap (λ s. c.one_misfits.new.faults.items ++ all_at c.args.line (declarators_assignments a s b ds)) (sym c.in_ok-one_misfits.ensures.scope);
      scope = c.ones.invariant.scope
          ∙ ap (λ l. declaring sc (locals_of b (map declarator_of l))) rest
          ∙ declared_more sc c.one_misfits.new.scopes b (declarator_of x) ds c.in_ok-one_misfits.ensures.scope;
    }
