use Rattle.std.proofs.Common.{drop}
use Rattle.lp_types_expr.specs.Surroundings.{around_of}
use Rattle.lp_types.specs.Checks.{InParams}
use Rattle.lp_types.proofs.unit.params_faults.Given as goal

abbrev pub invariant-all : goal.invariant-all
invariant-all l = InParams (around_of l.around) l.initial.faults.items l.faults.items l.params.items (drop l.param-index l.params.items) l.earlier
