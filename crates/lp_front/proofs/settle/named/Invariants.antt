use Rattle.std.proofs.Common.{◌≡◌, map, take}
use Rattle.lp_front.specs.Settling.{in_file}
use Rattle.lp_front.proofs.settle.named.Given as goal

abbrev pub invariant-loop-fault : goal.invariant-loop-fault
invariant-loop-fault l = l.all.items ≡ map (in_file l.file) (take l.fault-index l.faults)
