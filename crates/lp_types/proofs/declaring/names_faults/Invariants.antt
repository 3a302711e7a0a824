use Rattle.std.proofs.Common.{◌≡◌, ◌++◌, drop, map}
use Rattle.lp_tree.specs.StatementView.{declarator_of}
use Rattle.lp_types_expr.specs.Scopes.{declaring}
use Rattle.lp_types_expr.specs.Surroundings.{around_of}
use Rattle.lp_types.specs.TypeFaults.{declarators_faults, locals_of}
use Rattle.lp_types.proofs.declaring.names_faults.Given as goal

abbrev pub invariant-ones : goal.invariant-ones
invariant-ones l = record {
  faults : l.initial.faults.items ++ declarators_faults (around_of l.around) l.initial.scopes l.local.base (map declarator_of l.local.ones.items)
      ≡ l.faults.items ++ declarators_faults (around_of l.around) l.scopes l.local.base (map declarator_of (drop l.d-index l.local.ones.items));
  scope : declaring l.initial.scopes (locals_of l.local.base (map declarator_of l.local.ones.items)) ≡ declaring l.scopes (locals_of l.local.base (map declarator_of (drop l.d-index l.local.ones.items)));
}
