use Rattle.std.proofs.Common.{take, Ok}
use Rattle.std.specs.Str.{encode_utf8_all}
use Rattle.lp_script.specs.Put.{Puts}
use Rattle.lp_recording.proofs.put.put_chars.Given as goal

abbrev pub invariant-loop-c : goal.invariant-loop-c
invariant-loop-c g l = Puts (record { written = g.K.Sink.written l.fn.out; faults = g.K.Sink.faults l.fn.out; zeros = g.K.Sink.zeros l.fn.out })
    (record { written = g.K.Sink.written l.out; faults = g.K.Sink.faults l.out; zeros = g.K.Sink.zeros l.out })
    (Ok tt) (encode_utf8_all (take l.c-index l.chars))
