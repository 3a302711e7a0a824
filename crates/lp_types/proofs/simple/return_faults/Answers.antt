use Rattle.std.proofs.Common.{ap, ◌∙◌, ◌++◌}
use Rattle.lp_tree.specs.declared.fault.FaultKind.TheVariants.{BadReturn}
use Rattle.lp_types_expr.specs.Walk.{all_at}
use Rattle.lp_types_expr.specs.ExprFaults.{when}
use Rattle.lp_types.proofs.Adding.{then, at_line}
use Rattle.lp_types.proofs.simple.return_faults.Goals as goal

pub returns : goal.returns
returns c =
    then _ _ _ (at_line c.args.line _ _ _ c.in_ok-misfits_if.ensures (c.in_ok-tell.ensures ∙ ap (λ b. c.misfits_if.new.faults.items ++ all_at c.args.line (when b BadReturn)) c.is_fault-bad.ensures)) c.in_ok-faults_if.ensures
