use Rattle.std.proofs.Common.{Some, take}
use Rattle.std.specs.List.{flat_map}
use Rattle.lp_image.specs.Image.{cell_mentions}
use Rattle.lp_image.specs.Order.{Follows}
use Rattle.lp_image.proofs.order.behind_cells.Given as goal

abbrev pub invariant-loop-cell : goal.invariant-loop-cell
invariant-loop-cell l = Follows l.cells (flat_map cell_mentions (take l.cell-index l.of)) l.fn.next (Some l.at)
