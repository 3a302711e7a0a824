use Rattle.std.proofs.Common.{drop, map}
use Rattle.lp_tree.specs.StatementView.{declarator_of}
use Rattle.lp_types_expr.specs.Surroundings.{around_of}
use Rattle.lp_types.specs.Checks.{InGlobals}
use Rattle.lp_types.proofs.unit.globals_faults.Given as goal

abbrev pub invariant-all : goal.invariant-all
invariant-all l = InGlobals (around_of l.around) l.base l.initial.faults.items l.faults.items (map declarator_of l.ones.items) (map declarator_of (drop l.d-index l.ones.items)) l.initial.vars l.vars
