use Rattle.std.proofs.Common.{◌≡◌}
use Rattle.lp_mio_wire.proofs.sockets.Sockets.next.Given as goal

abbrev pub invariant-loop : goal.invariant-loop
invariant-loop l = l.self.highest ≡ l.fn.self.highest
