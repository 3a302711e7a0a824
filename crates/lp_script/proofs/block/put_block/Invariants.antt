use Rattle.std.proofs.Common.{◌≡◌, ◌≤◌, ◌-◌, List, ℕ, ◌++◌, drop, length, Ok}
use Rattle.lp_events.specs.Transcript.{block}
use Rattle.lp_script.specs.Put.{Puts}
use Rattle.lp_script.proofs.block.put_block.Given as goal

abbrev pub invariant-loop-done : goal.invariant-loop-done
invariant-loop-done g l = (l.done ≤ length l.outs) × (bytes : List ℕ) × (block l.outs ≡ bytes ++ block (drop l.done l.outs))
    × Puts (record { written = g.K.Sink.written l.fn.out; faults = g.K.Sink.faults l.fn.out; zeros = g.K.Sink.zeros l.fn.out })
    (record { written = g.K.Sink.written l.out; faults = g.K.Sink.faults l.out; zeros = g.K.Sink.zeros l.out })
    (Ok tt) bytes

abbrev pub decreases-loop-done : goal.decreases-loop-done
decreases-loop-done g l = length l.outs - l.done
