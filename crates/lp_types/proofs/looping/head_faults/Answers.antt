use Rattle.std.proofs.Common.{◌++◌, ap, ◌∙◌, option_map}
use Rattle.lp_tree.specs.StatementView.{init_of}
use Rattle.lp_tree.specs.TreeView.{tree_of}
use Rattle.lp_types_expr.specs.ExprFaults.{expr_faults_if}
use Rattle.lp_types_expr.specs.Scopes.{declaring, visible}
use Rattle.lp_types_expr.specs.Surroundings.{around_of}
use Rattle.lp_types.specs.TypeFaults.{declares_first, init_faults}
use Rattle.lp_types.proofs.Adding.{then}
use Rattle.lp_types.proofs.looping.head_faults.Goals as goal

pub returns-clause-faults : goal.returns-clause-faults
returns-clause-faults c =
    let a = around_of c.args.around.now in
    let i = init_of c.args.init.now in
    let t = option_map tree_of c.args.test.now in
    let st = option_map tree_of c.args.step.now in
    let sc = c.in_ok-head_misfits.ensures.scope in
    let behind = c.in_ok-init_faults.ensures.scope ∙ ap (λ s. declaring s (declares_first i)) sc in
    then _ _ _ (then _ _ _ (then _ _ _ c.in_ok-head_misfits.ensures.faults (c.in_ok-init_faults.ensures.faults ∙ ap (λ s. c.head_misfits.new.faults.items ++ init_faults a s i) sc))
    (c.in_ok-faults_if.ensures ∙ ap (λ s. c.init_faults.new.faults.items ++ expr_faults_if a (visible s) t) behind))
    (c.in_ok-faults_if-2.ensures ∙ ap (λ s. c.faults_if.new.faults.items ++ expr_faults_if a (visible s) st) behind)

pub returns-clause-scope : goal.returns-clause-scope
returns-clause-scope c =
    c.in_ok-init_faults.ensures.scope ∙ ap (λ s. declaring s (declares_first (init_of c.args.init.now))) c.in_ok-head_misfits.ensures.scope
