use Rattle.std.proofs.Common.{◌≡◌, ◌++◌, drop}
use Rattle.lp_types_expr.specs.ExprFaults.{assignment_guilt}
use Rattle.lp_types_expr.specs.Scopes.{visible}
use Rattle.lp_types_expr.specs.Surroundings.{around_of}
use Rattle.lp_types_expr.specs.Visits.{listed, visited}
use Rattle.lp_types_expr.specs.Walk.{all_at}
use Rattle.lp_types_expr.proofs.assign.part_misfits.Given as goal

abbrev pub invariant-loop-i : goal.invariant-loop-i
invariant-loop-i l = l.initial.faults.items ++ all_at l.line (listed (assignment_guilt (around_of l.around) (visible l.scopes)) (visited l.parts)) ≡ l.faults.items ++ all_at l.line (listed (assignment_guilt (around_of l.around) (visible l.scopes)) (visited (drop l.i l.parts)))
