use Rattle.std.proofs.Common.{◌≡◌, [], map, take}
use Rattle.lp_world.specs.Records.{packed}
use Rattle.lp_residence.proofs.packing.packed_values.Given as goal

abbrev pub invariant-loop-v : goal.invariant-loop-v
invariant-loop-v l = l.all.items ≡ map (packed []) (take l.v-index l.values)
