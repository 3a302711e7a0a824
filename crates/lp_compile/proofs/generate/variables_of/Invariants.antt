use Rattle.std.proofs.Common.{◌≡◌, ◌+◌, drop}
use Rattle.lp_unit_laws.specs.Versions.{variables_in}
use Rattle.lp_compile.proofs.generate.variables_of.Given as goal

abbrev pub invariant-loop-parent : goal.invariant-loop-parent
invariant-loop-parent l = l.total + variables_in (drop l.parent-index l.parents) ≡ variables_in l.parents
