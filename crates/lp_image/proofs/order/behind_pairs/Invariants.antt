use Rattle.std.proofs.Common.{Some, take}
use Rattle.std.specs.List.{flat_map}
use Rattle.lp_image.specs.Image.{pair_mentions}
use Rattle.lp_image.specs.Order.{Follows}
use Rattle.lp_image.proofs.order.behind_pairs.Given as goal

abbrev pub invariant-loop-pair : goal.invariant-loop-pair
invariant-loop-pair l = Follows l.cells (flat_map pair_mentions (take l.pair-index l.pairs)) l.fn.next (Some l.at)
