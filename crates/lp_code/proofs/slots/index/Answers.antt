use Rattle.lp_code.proofs.Indexing.{place_noted}
use Rattle.lp_code.proofs.slots.index.Goals as goal

pub loop-i-preserved : goal.loop-i-preserved
loop-i-preserved c = record { each = λ q. place_noted q c.args.rows.now c.loop-i.i c.index-rows-i.result _ _ c.loop-i-test.true c.index-rows-i.is (c.loop-i.invariant.each q) c.as_str.ensures (c.in_ok-note.ensures q) }
