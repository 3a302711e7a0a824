use Rattle.std.proofs.Common.{◌≡◌, [], map, take}
use Rattle.lp_world.specs.Records.{packed}
use Rattle.lp_residence.proofs.unpacking.values_of.Given as goal

abbrev pub invariant-loop-p : goal.invariant-loop-p
invariant-loop-p l = map (packed []) l.values.items ≡ take l.p-index l.packs
