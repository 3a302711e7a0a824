use Rattle.lp_value_efuns.proofs.ListLemmas.{there_next}
use Rattle.lp_value_efuns.proofs.list.keys_there.Goals as goal

pub loop-slot-preserved : goal.loop-slot-preserved
loop-slot-preserved g c = there_next (λ p. p.0) (g.L.Living.live c.args.live.now) c.slots-slots.result.now c.loop-slot.slot-index c.slot-item.result c.loop-slot.keys.items c.keep_key.new.keys.items c.loop-slot-test.true c.slot-item.is c.loop-slot.invariant c.in_ok-keep_key.ensures
