use Rattle.std.proofs.Common.{◌++◌, ap, sym, ◌∙◌, append_assoc}
use Rattle.lp_tree.specs.TreeView.{tree_of}
use Rattle.lp_types_expr.specs.ExprFaults.{assignments, expr_faults}
use Rattle.lp_types_expr.specs.Scopes.{declaring, inside, visible}
use Rattle.lp_types_expr.specs.Surroundings.{around_of}
use Rattle.lp_types_expr.specs.Walk.{all_at}
use Rattle.lp_types.specs.TypeFaults.{declares_each, each_faults, second_faults}
use Rattle.lp_types.proofs.Adding.{then}
use Rattle.lp_types.proofs.looping.over_faults.Goals as goal

pub returns-clause-faults : goal.returns-clause-faults
returns-clause-faults c =
    let a = around_of c.args.around.now in
    let f = c.args.first.now in
    let sc = c.args.scopes.now in
    let e = tree_of c.args.over.now in
    then _ _ _ (then _ _ _ c.in_ok-assignments.ensures c.in_ok-variables_faults.ensures.faults) (c.in_ok-expr_faults.ensures ∙ ap (λ s. c.variables_faults.new.faults.items ++ expr_faults a (visible s) e) c.in_ok-variables_faults.ensures.scope)
    ∙ ap (λ l. c.args.faults.now.items ++ (l ++ expr_faults a (visible sc) e)) (sym (append_assoc (all_at c.args.line (assignments a (visible sc) e)) (each_faults a (inside sc) f) (second_faults a (declaring (inside sc) (declares_each f)) c.args.second.now)))
