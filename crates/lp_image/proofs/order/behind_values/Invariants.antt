use Rattle.std.proofs.Common.{Some, take}
use Rattle.std.specs.List.{flat_map}
use Rattle.lp_image.specs.Image.{mention_of}
use Rattle.lp_image.specs.Order.{Follows}
use Rattle.lp_image.proofs.order.behind_values.Given as goal

abbrev pub invariant-loop-value : goal.invariant-loop-value
invariant-loop-value l = Follows l.cells (flat_map mention_of (take l.value-index l.values)) l.fn.next (Some l.at)
