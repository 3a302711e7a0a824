use Rattle.std.proofs.Common.{◌≡◌, ◌++◌, drop, map}
use Rattle.lp_tree.specs.StatementView.{declarator_of}
use Rattle.lp_types_expr.specs.Scopes.{declaring}
use Rattle.lp_types_expr.specs.Surroundings.{around_of}
use Rattle.lp_types_expr.specs.Walk.{all_at}
use Rattle.lp_types.specs.TypeFaults.{declarators_assignments, locals_of}
use Rattle.lp_types.proofs.declaring.misfits.Given as goal

abbrev pub invariant-ones : goal.invariant-ones
invariant-ones l = record {
  faults : l.initial.faults.items ++ all_at l.line (declarators_assignments (around_of l.around) l.initial.scopes l.local.base (map declarator_of l.local.ones.items))
      ≡ l.faults.items ++ all_at l.line (declarators_assignments (around_of l.around) l.scopes l.local.base (map declarator_of (drop l.d-index l.local.ones.items)));
  scope : declaring l.initial.scopes (locals_of l.local.base (map declarator_of l.local.ones.items)) ≡ declaring l.scopes (locals_of l.local.base (map declarator_of (drop l.d-index l.local.ones.items)));
}
