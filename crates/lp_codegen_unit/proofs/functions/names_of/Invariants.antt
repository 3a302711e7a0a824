use Rattle.std.proofs.Common.{◌≡◌, map, take}
use Rattle.lp_codegen_unit.proofs.functions.names_of.Given as goal

abbrev pub invariant-loop-param : goal.invariant-loop-param
invariant-loop-param l = l.names.items ≡ map (λ p. p.name) (take l.param-index l.params)
