use Rattle.std.proofs.Common.{take, Ok}
use Rattle.lp_recording.proofs.Each.{file_bytes}
use Rattle.lp_script.specs.Put.{Puts}
use Rattle.lp_recording.proofs.recording.put_files.Given as goal

abbrev pub invariant-loop-file : goal.invariant-loop-file
invariant-loop-file g l = Puts (record { written = g.K.Sink.written l.fn.out; faults = g.K.Sink.faults l.fn.out; zeros = g.K.Sink.zeros l.fn.out })
    (record { written = g.K.Sink.written l.out; faults = g.K.Sink.faults l.out; zeros = g.K.Sink.zeros l.out })
    (Ok tt) (file_bytes (take l.file-index l.files))
