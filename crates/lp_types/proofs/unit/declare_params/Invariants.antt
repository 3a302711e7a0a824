use Rattle.std.proofs.Common.{◌≡◌, drop}
use Rattle.lp_types_expr.specs.Scopes.{declaring}
use Rattle.lp_types.specs.TypeFaults.{params_locals}
use Rattle.lp_types.proofs.unit.declare_params.Given as goal

abbrev pub invariant-all : goal.invariant-all
invariant-all l = declaring l.initial.scopes (params_locals l.params.items) ≡ declaring l.scopes (params_locals (drop l.param-index l.params.items))
