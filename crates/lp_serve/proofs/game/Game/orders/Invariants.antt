use Rattle.std.proofs.Common.{◌≡◌, ◌≤◌, take, false, List, ℕ, Option}
use Rattle.lp_core.specs.Turning.{Origin}
use Rattle.lp_wire.specs.Heard.{order_lines_heard}
use Rattle.lp_serving.specs.Causes.{OutputTells}
use Rattle.lp_serving.specs.Recorded.{Recorded}
use Rattle.lp_serve.specs.Standing.{Does}
use Rattle.lp_serve.proofs.game.Game.orders.Given as goal

abbrev pub invariant-loop-line : goal.invariant-loop-line
invariant-loop-line g l = record {
  running : g.C.Core.goes l.core l.swap;
  does : (origin : Origin) (from : Option (List ℕ)) → Does (λ slow h. order_lines_heard slow (take l.line-index l.lines) h)
      (Recorded (g.C.Core.ran l.fn.core l.fn.swap origin) l.fn.self.server.keeps from (g.K.Sink.written l.fn.out)) (Recorded (g.C.Core.ran l.core l.swap origin) l.fn.self.server.keeps from (g.K.Sink.written l.out))
      l.fn.self l.self false (g.N.Wire.calls l.fn.wire) (g.N.Wire.calls l.wire);
  keeps : l.self.server.keeps ≡ l.fn.self.server.keeps;
  faults : g.N.Wire.faults l.wire ≡ g.N.Wire.faults l.fn.wire;
  first : g.N.Wire.first l.wire ≡ g.N.Wire.first l.fn.wire;
  output : OutputTells false (g.K.Sink.faults l.fn.out) (g.K.Sink.faults l.out) (g.K.Sink.zeros l.fn.out) (g.K.Sink.zeros l.out);
  files : g.F.Files.faults l.fn.files ≤ g.F.Files.faults l.files;
  swap : (from : g.row.W.Denot) → g.C.Core.quiet from l.fn.swap → g.C.Core.quiet from l.swap;
}
