use Rattle.std.proofs.Common.{arith, sym}
use Rattle.lp_codegen_expr.proofs.Found.{name_next}
use Rattle.lp_codegen_expr.proofs.index.Index.from_vec.Goals as goal

pub loop-i-preserved : goal.loop-i-preserved
loop-i-preserved c = record { each = λ q. name_next c.args.names.items c.loop-i.i c.index.result.now q _ _ (omega (arith, c.loop-i-test.true, c.len-i-end.ensures)) (sym c.index.ensures) (c.loop-i.invariant.each q) (c.in_ok-note.ensures q) }
