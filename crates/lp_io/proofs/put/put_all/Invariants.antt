use Rattle.std.proofs.Common.{◌≡◌, ◌≤◌, ◌-◌, length, take}
use Rattle.lp_io.specs.Told.{after_adding}
use Rattle.lp_io.proofs.put.put_all.Given as goal

abbrev pub invariant-loop-done : goal.invariant-loop-done
invariant-loop-done g l = record {
  within : l.done ≤ length l.piece;
  so_far : g.K.Sink.written l.out ≡ after_adding (g.K.Sink.written l.fn.out) (take l.done l.piece);
  faults : g.K.Sink.faults l.out ≡ g.K.Sink.faults l.fn.out;
  zeros : g.K.Sink.zeros l.out ≡ g.K.Sink.zeros l.fn.out;
}

abbrev pub decreases-loop-done : goal.decreases-loop-done
decreases-loop-done g l = length l.piece - l.done
