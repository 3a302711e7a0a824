use Rattle.std.proofs.Common.{arith, ◌≡◌, ◌-◌, length, take, drop}
use Rattle.std.proofs.lemmas.Grind.{common_steps}
use Rattle.lp_io.proofs.ToldLemmas.{after_adding-more, zeros-taken}
use Rattle.lp_io.proofs.put.put_all.Goals as goal

pub loop-done-preserved : goal.loop-done-preserved
loop-done-preserved g c =
    let rest : take (length c.args.piece.now - c.loop-done.done) (drop c.loop-done.done c.args.piece.now) ≡ drop c.loop-done.done c.args.piece.now = grind (arith, common_steps) in
    record {
      within = grind (arith, common_steps);
      so_far = after_adding-more _ _ _ _ _ _ _ c.loop-done.invariant.so_far rest c.in-Ok.ensures.taken;
      faults = cc (c.in-Ok.ensures.faults);
      zeros = let same : g.K.Sink.zeros c.write.new.self ≡ g.K.Sink.zeros c.loop-done.out = zeros-taken _ _ _ _ c.in-Ok.ensures.zeros c.in-Ok.taken-test.1 in cc;
    }
