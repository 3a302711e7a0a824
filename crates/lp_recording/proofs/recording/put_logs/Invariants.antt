use Rattle.std.proofs.Common.{take, Ok}
use Rattle.lp_wire.specs.Record.{logged}
use Rattle.lp_script.specs.Put.{Puts}
use Rattle.lp_recording.proofs.recording.put_logs.Given as goal

abbrev pub invariant-loop-output : goal.invariant-loop-output
invariant-loop-output g l = Puts (record { written = g.K.Sink.written l.fn.out; faults = g.K.Sink.faults l.fn.out; zeros = g.K.Sink.zeros l.fn.out })
    (record { written = g.K.Sink.written l.out; faults = g.K.Sink.faults l.out; zeros = g.K.Sink.zeros l.out })
    (Ok tt) (logged (take l.output-index l.outs))
