use Rattle.std.proofs.Common.{◌≡◌, ◌≤◌, false, List, ℕ, Option}
use Rattle.lp_core.specs.Turning.{Origin}
use Rattle.lp_serving.specs.Causes.{OutputTells}
use Rattle.lp_serving.specs.Recorded.{Recorded}
use Rattle.lp_serve.specs.Served.{Runs}
use Rattle.lp_serve.proofs.run.serve.Given as goal

abbrev pub invariant-loop-polls : goal.invariant-loop-polls
invariant-loop-polls g l = record {
  running : g.C.Core.goes l.core l.swap;
  runs : (origin : Origin) (from : Option (List ℕ)) → Runs (g.N.Wire.first l.fn.wire) l.polls
      (Recorded (g.C.Core.ran l.fn.core l.fn.swap origin) l.fn.keeps from (g.K.Sink.written l.fn.out)) (Recorded (g.C.Core.ran l.core l.swap origin) l.fn.keeps from (g.K.Sink.written l.out))
      l.game false (g.N.Wire.calls l.fn.wire) (g.N.Wire.calls l.wire);
  keeps : l.game.server.keeps ≡ l.fn.keeps;
  faults : g.N.Wire.faults l.wire ≡ g.N.Wire.faults l.fn.wire;
  first : g.N.Wire.first l.wire ≡ g.N.Wire.first l.fn.wire;
  output : OutputTells false (g.K.Sink.faults l.fn.out) (g.K.Sink.faults l.out) (g.K.Sink.zeros l.fn.out) (g.K.Sink.zeros l.out);
  files : g.F.Files.faults l.fn.files ≤ g.F.Files.faults l.files;
  swap : (from : g.row.W.Denot) → g.C.Core.quiet from l.fn.swap → g.C.Core.quiet from l.swap;
}
