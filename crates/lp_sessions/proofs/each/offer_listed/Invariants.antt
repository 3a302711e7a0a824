use Rattle.std.proofs.Common.{◌≡◌, drop}
use Rattle.lp_sessions.specs.All.{numbers}
use Rattle.lp_sessions.specs.Index.{IsIndex}
use Rattle.lp_sessions.proofs.Index.{Walks}
use Rattle.lp_sessions.proofs.each.offer_listed.Given as goal

abbrev pub invariant-loop-at : goal.invariant-loop-at
invariant-loop-at g l = record {
  walks : Walks l.fn.sessions.items l.sessions.items (drop l.at l.listed) l.done (g.N.Wire.calls l.fn.wire) (g.N.Wire.calls l.wire);
  numbers : numbers l.sessions.items ≡ numbers l.fn.sessions.items;
  index : IsIndex l.listed l.sessions.items;
  faults : g.N.Wire.faults l.wire ≡ g.N.Wire.faults l.fn.wire;
  first : g.N.Wire.first l.wire ≡ g.N.Wire.first l.fn.wire;
}
