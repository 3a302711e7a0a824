use Rattle.lp_workload.proofs.EventLemmas.{IsUnderway}
use Rattle.lp_workload.proofs.writing.write_events.Given as goal

-- the events up to where so many are left were written, and the generator and the clock stand before the next
abbrev pub invariant-loop-left : goal.invariant-loop-left
invariant-loop-left g l = IsUnderway (record { written = g.K.Sink.written l.fn.out; faults = g.K.Sink.faults l.fn.out; zeros = g.K.Sink.zeros l.fn.out })
    (record { written = g.K.Sink.written l.out; faults = g.K.Sink.faults l.out; zeros = g.K.Sink.zeros l.out })
    l.count l.seed l.left l.generator l.moment

abbrev pub decreases-loop-left : goal.decreases-loop-left
decreases-loop-left g l = l.left
