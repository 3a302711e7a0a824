use Rattle.std.proofs.Common.{◌++◌, map, ap, ◌∙◌}
use Rattle.lp_tree.specs.StatementView.{declarator_of}
use Rattle.lp_types_expr.specs.Scopes.{declaring, inside}
use Rattle.lp_types_expr.specs.Surroundings.{around_of}
use Rattle.lp_types_expr.specs.Walk.{all_at}
use Rattle.lp_types.specs.TypeFaults.{declarators_assignments, declarators_faults, locals_of}
use Rattle.lp_types.proofs.Adding.{then}
use Rattle.lp_types.proofs.Seen.{same_misfits, visible_inside}
use Rattle.lp_types.proofs.declaring.local_faults.Goals as goal

pub returns-clause-faults : goal.returns-clause-faults
returns-clause-faults c =
    let a = around_of c.args.around.now in
    let b = c.args.local.now.base in
    let ds = map declarator_of c.args.local.now.ones.items in
    let sc = c.args.scopes.now in
    let back = c.leave.ensures.back sc (locals_of b ds) c.enter-mark.ensures.mark (c.in_ok-misfits.ensures.scope ∙ ap (λ s. declaring s (locals_of b ds)) c.enter-mark.ensures.inside) in
    then _ _ _
    (c.in_ok-misfits.ensures.faults ∙ ap (λ s. c.args.faults.now.items ++ all_at c.args.line (declarators_assignments a s b ds)) c.enter-mark.ensures.inside ∙ ap (λ ks. c.args.faults.now.items ++ all_at c.args.line ks) (same_misfits a b ds (inside sc) sc (visible_inside sc)))
    (c.in_ok-names_faults.ensures.faults ∙ ap (λ s. c.misfits.new.faults.items ++ declarators_faults a s b ds) back)

pub returns-clause-scope : goal.returns-clause-scope
returns-clause-scope c =
    let b = c.args.local.now.base in
    let ds = map declarator_of c.args.local.now.ones.items in
    let sc = c.args.scopes.now in
    let back = c.leave.ensures.back sc (locals_of b ds) c.enter-mark.ensures.mark (c.in_ok-misfits.ensures.scope ∙ ap (λ s. declaring s (locals_of b ds)) c.enter-mark.ensures.inside) in
    c.in_ok-names_faults.ensures.scope ∙ ap (λ s. declaring s (locals_of b ds)) back
