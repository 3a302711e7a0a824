use Rattle.lp_value_efuns.proofs.ListLemmas.{texts_more}
use Rattle.lp_value_efuns.proofs.text.texts_among.Goals as goal

pub loop-v-preserved : goal.loop-v-preserved
loop-v-preserved c = texts_more c.args.items.now c.loop-v.v-index c.v-item.result c.loop-v.texts.items c.keep_text.new.texts.items c.loop-v-test.true c.v-item.is c.loop-v.invariant c.in_ok-keep_text.ensures
