use Rattle.std.proofs.Common.{◌≡◌, ◌<◌, ◌^◌, ◌++◌, length, take}
use Rattle.std.specs.List.{flat_map, AllByRecursion}
use Rattle.lp_image.specs.Image.{four, IsCell, cell_image}
use Rattle.lp_image.proofs.packing.put_cells.Given as goal

abbrev pub invariant-loop-cell : goal.invariant-loop-cell
invariant-loop-cell l = record {
  len : length l.cells < 2 ^ 32;
  fits : AllByRecursion IsCell (take l.cell-index l.cells);
  bytes : l.out.items ≡ l.fn.out.items ++ (four (length l.cells) ++ flat_map cell_image (take l.cell-index l.cells));
}
