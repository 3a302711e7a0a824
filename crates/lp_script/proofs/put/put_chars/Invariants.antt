use Rattle.std.proofs.Common.{◌≡◌, ℕ, List, ◌++◌, length, Ok}
use Rattle.std.specs.Str.{encode_utf8_all}
use Rattle.lp_script.specs.Put.{Puts}
use Rattle.lp_script.proofs.put.put_chars.Given as goal

abbrev pub invariant-loop-rest : goal.invariant-loop-rest
invariant-loop-rest g l = (done : List ℕ) × (l.chars ≡ done ++ l.rest)
    × Puts (record { written = g.K.Sink.written l.fn.out; faults = g.K.Sink.faults l.fn.out; zeros = g.K.Sink.zeros l.fn.out })
    (record { written = g.K.Sink.written l.out; faults = g.K.Sink.faults l.out; zeros = g.K.Sink.zeros l.out })
    (Ok tt) (encode_utf8_all done)

abbrev pub decreases-loop-rest : goal.decreases-loop-rest
decreases-loop-rest g l = length l.rest
