use Rattle.std.proofs.Common.{◌-◌, arith, refl}
use Rattle.lp_step.proofs.Scanned.{mark_more}
use Rattle.lp_step.proofs.scans.push_marks.Goals as goal

pub loop-left-preserved : goal.loop-left-preserved
loop-left-preserved c = record {
  within = omega (arith, c.loop-left.invariant.within);
  marked = mark_more c.args.stack.now.items c.loop-left.stack.items c.push_mark.new.stack.items c.args.places c.loop-left.left (c.loop-left.left - 1) c.args.found.now _ (omega (arith, c.loop-left-test.true)) c.loop-left.invariant.within refl c.loop-left.invariant.marked c.in_ok-push_mark.ensures;
}
