use Rattle.std.proofs.Common.{◌≡◌, ◌+◌, drop}
use Rattle.lp_world.specs.Closed.{variables_together}
use Rattle.lp_residence.proofs.adding.count_variables.Given as goal

abbrev pub invariant-loop-p : goal.invariant-loop-p
invariant-loop-p l = l.total + variables_together l.versions (drop l.p-index l.parents) ≡ variables_together l.versions l.parents
