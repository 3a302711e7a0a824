use Rattle.std.proofs.Common.{take, flat_map, Ok}
use Rattle.lp_script.specs.Put.{Puts}
use Rattle.lp_recording.proofs.put.put_pieces.Given as goal

abbrev pub invariant-loop-piece : goal.invariant-loop-piece
invariant-loop-piece g l = Puts (record { written = g.K.Sink.written l.fn.out; faults = g.K.Sink.faults l.fn.out; zeros = g.K.Sink.zeros l.fn.out })
    (record { written = g.K.Sink.written l.out; faults = g.K.Sink.faults l.out; zeros = g.K.Sink.zeros l.out })
    (Ok tt) (flat_map (λ p. p.now) (take l.piece-index l.pieces))
