use Rattle.std.proofs.Common.{◌≡◌, take}
use Rattle.lp_ops.specs.Operators.{items_without}
use Rattle.lp_ops.proofs.list.items_without.Given as goal

abbrev pub invariant-loop-x : goal.invariant-loop-x
invariant-loop-x g l = l.kept.items ≡ items_without (g.L.Living.live l.live) (take l.x-index l.first) l.second
