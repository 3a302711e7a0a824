use Rattle.std.proofs.Common.{◌≡◌, ◌++◌, drop}
use Rattle.lp_types_expr.specs.ExprFaults.{guilt}
use Rattle.lp_types_expr.specs.Scopes.{visible}
use Rattle.lp_types_expr.specs.Surroundings.{around_of}
use Rattle.lp_types_expr.specs.Visits.{judged, visited}
use Rattle.lp_types_expr.proofs.walk.part_faults.Given as goal

abbrev pub invariant-loop-i : goal.invariant-loop-i
invariant-loop-i l = l.initial.faults.items ++ judged (guilt (around_of l.around) (visible l.scopes)) (visited l.parts) ≡ l.faults.items ++ judged (guilt (around_of l.around) (visible l.scopes)) (visited (drop l.i l.parts))
