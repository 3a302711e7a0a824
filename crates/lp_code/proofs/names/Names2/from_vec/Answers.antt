use Rattle.std.proofs.Common.{arith}
use Rattle.lp_code.proofs.NamesNoted.{name_noted}
use Rattle.lp_code.proofs.names.Names2.from_vec.Goals as goal

pub loop-i-preserved : goal.loop-i-preserved
loop-i-preserved c = record { each = λ q. name_noted q c.args.names.items c.loop-i.i c.index.result.now _ _ (omega (arith, c.loop-i-test.true, c.len-i-end.ensures)) c.index.ensures c.as_str.ensures (c.loop-i.invariant.each q) (c.in_ok-note.ensures q) }
