use Rattle.std.proofs.Common.{◌≡◌, [], take}
use Rattle.std.specs.List.{flat_map}
use Rattle.lp_world.specs.Records.{shared_in}
use Rattle.lp_residence.proofs.packing.cells_named.Given as goal

abbrev pub invariant-loop-v : goal.invariant-loop-v
invariant-loop-v l = l.cells.items ≡ flat_map (shared_in []) (take l.v-index l.values)
