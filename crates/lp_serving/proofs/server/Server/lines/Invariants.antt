use Rattle.std.proofs.Common.{◌≡◌, ◌≤◌, false, take, List, ℕ, Option}
use Rattle.lp_core.specs.Turning.{Origin}
use Rattle.lp_wire.specs.Heard.{lines_heard}
use Rattle.lp_serving.specs.Causes.{OutputTells}
use Rattle.lp_serving.specs.Happens.{Happens}
use Rattle.lp_serving.specs.Recorded.{Recorded}
use Rattle.lp_serving.proofs.server.Server.lines.Given as goal

abbrev pub invariant-loop-line : goal.invariant-loop-line
invariant-loop-line g l = record {
  running : g.C.Core.goes l.core l.swap;
  goes : (origin : Origin) (from : Option (List ℕ)) → Happens (λ slow h. lines_heard slow l.k (take l.line-index l.lines) h)
      (Recorded (g.C.Core.ran l.fn.core l.fn.swap origin) l.fn.self.keeps from (g.K.Sink.written l.fn.out)) (Recorded (g.C.Core.ran l.core l.swap origin) l.fn.self.keeps from (g.K.Sink.written l.out))
      l.fn.self.connections.sessions l.fn.self.connections.highest l.fn.self.moment l.self.connections.sessions l.self.connections.highest l.self.moment (g.N.Wire.calls l.fn.wire) (g.N.Wire.calls l.wire);
  keeps : l.self.keeps ≡ l.fn.self.keeps;
  faults : g.N.Wire.faults l.wire ≡ g.N.Wire.faults l.fn.wire;
  first : g.N.Wire.first l.wire ≡ g.N.Wire.first l.fn.wire;
  output : OutputTells false (g.K.Sink.faults l.fn.out) (g.K.Sink.faults l.out) (g.K.Sink.zeros l.fn.out) (g.K.Sink.zeros l.out);
  files : g.F.Files.faults l.fn.files ≤ g.F.Files.faults l.files;
  swap : (from : g.row.W.Denot) → g.C.Core.quiet from l.fn.swap → g.C.Core.quiet from l.swap;
}
