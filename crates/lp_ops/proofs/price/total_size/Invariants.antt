use Rattle.std.proofs.Common.{◌≡◌, ◌≤◌, ◌*◌, ◌^◌, take}
use Rattle.lp_ops.specs.Prices.{total_size}
use Rattle.lp_ops.proofs.price.total_size.Given as goal

abbrev pub invariant-loop-v : goal.invariant-loop-v
invariant-loop-v g l = (l.total ≡ total_size (g.L.Living.live l.live) l.cells (take l.v-index l.parts)) × (l.total ≤ 2 ^ 63 * l.v-index)
