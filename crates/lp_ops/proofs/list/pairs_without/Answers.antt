use Rattle.std.proofs.Common.{[]}
use Rattle.lp_cells.specs.Mapping.{pairs_there}
use Rattle.lp_ops.proofs.ListLemmas.{pairs_without_next}
use Rattle.lp_ops.proofs.list.pairs_without.Goals as goal

pub loop-slot-preserved : goal.loop-slot-preserved
loop-slot-preserved g c =
    let next = pairs_without_next (g.L.Living.live c.args.live.now) [] c.slots-slots.result.now (pairs_there (g.L.Living.live c.args.live.now) c.args.second.now) c.loop-slot.slot-index c.slot-item.result c.loop-slot-test.true c.slot-item.is in
    rw next (cc (c.in_ok-keep_pair.ensures))
