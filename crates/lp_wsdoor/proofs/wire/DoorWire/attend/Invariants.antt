use Rattle.std.proofs.Common.{◌≡◌}
use Rattle.lp_wsdoor.proofs.wire.DoorWire.attend.Given as goal

abbrev pub invariant-loop-key : goal.invariant-loop-key
invariant-loop-key g l = record {
  faults : g.N.Wire.faults l.self.wire ≡ g.N.Wire.faults l.fn.self.wire;
  first : g.N.Wire.first l.self.wire ≡ g.N.Wire.first l.fn.self.wire;
  highest : l.self.highest ≡ l.fn.self.highest;
}
