use Rattle.std.proofs.Common.{◌≡◌, ◌<◌, ◌^◌, ◌++◌, length, take}
use Rattle.std.specs.List.{flat_map, AllByRecursion}
use Rattle.lp_image.specs.Image.{four, IsValue, value_image}
use Rattle.lp_image.proofs.packing.put_values.Given as goal

abbrev pub invariant-loop-value : goal.invariant-loop-value
invariant-loop-value l = record {
  len : length l.values < 2 ^ 32;
  fits : AllByRecursion IsValue (take l.value-index l.values);
  bytes : l.out.items ≡ l.fn.out.items ++ (four (length l.values) ++ flat_map value_image (take l.value-index l.values));
}
