use Rattle.std.proofs.Common.{◌++◌, ap, ◌∙◌, option_map}
use Rattle.lp_tree.specs.TreeView.{tree_of}
use Rattle.lp_types_expr.specs.Scopes.{visible}
use Rattle.lp_types_expr.specs.Surroundings.{around_of}
use Rattle.lp_tree.specs.declared.fault.FaultKind.TheVariants.{DoubleName}
use Rattle.lp_types_expr.specs.ExprFaults.{when}
use Rattle.lp_types_expr.specs.Walk.{all_at}
use Rattle.lp_types.specs.TypeFaults.{initialiser_kinds}
use Rattle.lp_types.proofs.Adding.{then, at_line}
use Rattle.lp_types.proofs.declaring.one_faults.Goals as goal

pub returns-clause-faults : goal.returns-clause-faults
returns-clause-faults c =
    let first = c.in_ok-tell.ensures ∙ ap (λ ks. c.args.faults.now.items ++ all_at c.args.d.now.line ks) (c.is_misfit-misfit.ensures ∙ ap (λ k. initialiser_kinds (around_of c.args.around.now) (visible c.args.scopes.now) k (option_map tree_of c.args.d.now.value)) c.kind_with-kind.ensures) in
    then _ _ _ (at_line c.args.d.now.line _ _ _ first (c.in_ok-tell-2.ensures ∙ ap (λ b. c.tell.new.faults.items ++ all_at c.args.d.now.line (when b DoubleName)) c.is_double-double.ensures)) c.in_ok-faults_if.ensures
