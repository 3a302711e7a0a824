use Rattle.std.proofs.Common.{◌≡◌, ◌<◌, ◌^◌, ◌++◌, length, take}
use Rattle.std.specs.List.{flat_map, AllByRecursion}
use Rattle.lp_image.specs.Image.{four, IsPair, pair_image}
use Rattle.lp_image.proofs.packing.put_pairs.Given as goal

abbrev pub invariant-loop-pair : goal.invariant-loop-pair
invariant-loop-pair l = record {
  len : length l.pairs < 2 ^ 32;
  fits : AllByRecursion IsPair (take l.pair-index l.pairs);
  bytes : l.out.items ≡ l.fn.out.items ++ (four (length l.pairs) ++ flat_map pair_image (take l.pair-index l.pairs));
}
