use Rattle.std.proofs.Common.{◌≡◌, ◌+◌, drop}
use Rattle.lp_world.specs.Closed.{parts_together}
use Rattle.lp_residence.proofs.adding.count_parts.Given as goal

abbrev pub invariant-loop-p : goal.invariant-loop-p
invariant-loop-p l = l.total + parts_together l.versions (drop l.p-index l.parents) ≡ parts_together l.versions l.parents
