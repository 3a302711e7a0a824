use Rattle.std.proofs.Common.{◌++◌, ap, ◌∙◌, option_map}
use Rattle.lp_tree.specs.StatementView.{init_of}
use Rattle.lp_tree.specs.TreeView.{tree_of}
use Rattle.lp_types_expr.specs.ExprFaults.{assignments_if}
use Rattle.lp_types_expr.specs.Scopes.{declaring, visible}
use Rattle.lp_types_expr.specs.Surroundings.{around_of}
use Rattle.lp_types_expr.specs.Walk.{all_at}
use Rattle.lp_types.specs.Pieces.{head_misfits}
use Rattle.lp_types.specs.TypeFaults.{declares_first, init_assignments}
use Rattle.lp_types.proofs.Adding.{at_line}
use Rattle.lp_types.proofs.Seen.{same_head}
use Rattle.lp_types.proofs.looping.head_misfits.Goals as goal

pub returns-clause-faults : goal.returns-clause-faults
returns-clause-faults c =
    let a = around_of c.args.around.now in
    let i = init_of c.args.init.now in
    let t = option_map tree_of c.args.test.now in
    let st = option_map tree_of c.args.step.now in
    let o = c.args.faults.now.items in
    at_line c.args.line _ _ _ (at_line c.args.line _ _ _ c.in_ok-init_misfits.ensures.faults c.in_ok-misfits_if.ensures) c.in_ok-misfits_if-2.ensures
    ∙ ap (λ s. o ++ all_at c.args.line ((init_assignments a c.enter-mark.new.self i ++ assignments_if a (visible s) t) ++ assignments_if a (visible s) st)) c.in_ok-init_misfits.ensures.scope
    ∙ ap (λ s. o ++ all_at c.args.line (head_misfits a s i t st)) c.enter-mark.ensures.inside
    ∙ ap (λ ks. o ++ all_at c.args.line ks) (same_head a c.args.scopes.now i t st)

pub returns-clause-scope : goal.returns-clause-scope
returns-clause-scope c =
    c.leave.ensures.back c.args.scopes.now (declares_first (init_of c.args.init.now)) c.enter-mark.ensures.mark (c.in_ok-init_misfits.ensures.scope ∙ ap (λ s. declaring s (declares_first (init_of c.args.init.now))) c.enter-mark.ensures.inside)
