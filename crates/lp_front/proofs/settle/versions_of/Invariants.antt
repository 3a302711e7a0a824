use Rattle.std.proofs.Common.{◌≡◌, take}
use Rattle.lp_front.specs.Settling.{versions_of}
use Rattle.lp_front.proofs.settle.versions_of.Given as goal

abbrev pub invariant-loop-parent : goal.invariant-loop-parent
invariant-loop-parent l = l.all.items ≡ versions_of (take l.parent-index l.parents)
