use Rattle.std.proofs.Common.{◌≡◌, take, map}
use Rattle.lp_types_expr.specs.Kinds.{kind_of}
use Rattle.lp_types_expr.proofs.items.param_kinds.Given as goal

abbrev pub invariant-loop-param : goal.invariant-loop-param
invariant-loop-param l = l.kinds.items ≡ map (λ p. kind_of p.type_name) (take l.param-index l.params)
