use Rattle.std.proofs.Common.{◌++◌, ap, ◌∙◌}
use Rattle.lp_types_expr.specs.Scopes.{declaring}
use Rattle.lp_types_expr.specs.Surroundings.{around_of}
use Rattle.lp_types.specs.TypeFaults.{declares_each, each_faults, second_faults}
use Rattle.lp_types.proofs.Adding.{then}
use Rattle.lp_types.proofs.looping.variables_faults.Goals as goal

pub returns-clause-faults : goal.returns-clause-faults
returns-clause-faults c =
    let a = around_of c.args.around.now in
    let f = c.args.first.now in
    let behind = c.in_ok-declare_each.ensures ∙ ap (λ s. declaring s (declares_each f)) c.enter-mark.ensures.inside in
    then _ _ _ (c.in_ok-each_faults.ensures ∙ ap (λ s. c.args.faults.now.items ++ each_faults a s f) c.enter-mark.ensures.inside)
    (c.in_ok-second_faults.ensures ∙ ap (λ s. c.each_faults.new.faults.items ++ second_faults a s c.args.second.now) behind)

pub returns-clause-scope : goal.returns-clause-scope
returns-clause-scope c =
    c.leave.ensures.back c.args.scopes.now (declares_each c.args.first.now) c.enter-mark.ensures.mark (c.in_ok-declare_each.ensures ∙ ap (λ s. declaring s (declares_each c.args.first.now)) c.enter-mark.ensures.inside)
