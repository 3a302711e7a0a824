use Rattle.std.proofs.Common.{◌++◌, [], ap, ◌∙◌, option_map}
use Rattle.lp_tree.specs.TreeView.{tree_of}
use Rattle.lp_tree.specs.declared.fault.FaultKind.TheVariants.{DoubleName}
use Rattle.lp_types_expr.specs.ExprFaults.{when, assignments_if, expr_faults_if}
use Rattle.lp_types_expr.specs.Surroundings.{around_of}
use Rattle.lp_types_expr.specs.Walk.{all_at}
use Rattle.lp_types.specs.TypeFaults.{initialiser_kinds}
use Rattle.lp_types.proofs.Adding.{then, at_line}
use Rattle.lp_types.proofs.unit.global_faults.Goals as goal

pub returns-clause-faults : goal.returns-clause-faults
returns-clause-faults c =
    let a = around_of c.args.around.now in
    let e = option_map tree_of c.args.d.now.value in
    let n = c.args.d.now.line in
    let misfit = c.is_misfit-misfit.ensures ∙ ap (λ v. initialiser_kinds a v c.kind_with-kind.result e) c.requires ∙ ap (λ k. initialiser_kinds a [] k e) c.kind_with-kind.ensures in
    then _ _ _
    (at_line n _ _ _ (at_line n _ _ _ (c.in_ok-tell.ensures ∙ ap (λ ks. c.args.faults.now.items ++ all_at n ks) misfit)
    (c.in_ok-misfits_if.ensures ∙ ap (λ v. c.tell.new.faults.items ++ all_at n (assignments_if a v e)) c.requires))
    (c.in_ok-tell-2.ensures ∙ ap (λ b. c.misfits_if.new.faults.items ++ all_at n (when b DoubleName)) c.is_double-double.ensures))
    (c.in_ok-faults_if.ensures ∙ ap (λ v. c.tell-2.new.faults.items ++ expr_faults_if a v e) c.requires)
