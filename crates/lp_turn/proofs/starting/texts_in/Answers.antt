use Rattle.lp_turn.proofs.Preloaded.{texts_next}
use Rattle.lp_turn.proofs.starting.texts_in.Goals as goal

pub loop-v-preserved : goal.loop-v-preserved
loop-v-preserved c = texts_next c.args.values.now c.loop-v.v-index c.v-item.result c.loop-v.all.items c.put_text.new.all.items c.loop-v-test.true c.v-item.is c.loop-v.invariant c.in_ok-put_text.ensures
