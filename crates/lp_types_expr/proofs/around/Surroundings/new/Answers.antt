use Rattle.lp_types_expr.proofs.Found.{found_parents}
use Rattle.lp_types_expr.proofs.around.Surroundings.new.Goals as goal

pub invariant_of-result-clause-each_parent : goal.invariant_of-result-clause-each_parent
invariant_of-result-clause-each_parent c = found_parents c.args.parents.now c.in_ok-each.each.items c.in_ok-each.ensures

pub invariant_of-result-clause-inherited_kinds : goal.invariant_of-result-clause-inherited_kinds
invariant_of-result-clause-inherited_kinds c = c.in_ok-inherited.ensures
