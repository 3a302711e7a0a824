use Rattle.std.proofs.Common.{◌≡◌, ℕ, List}
use Rattle.lp_files.specs.Store.{changed_in, file_at}
use Rattle.lp_core.specs.Turning.{Origin, Turn}
use Rattle.lp_flush.proofs.Going.{Going}
use Rattle.lp_flush.proofs.flush.write_last.Given as goal

abbrev pub invariant-loop : goal.invariant-loop
invariant-loop g l = record {
  goes : (swap : _) → g.C.Core.goes l.fn.core swap → g.C.Core.goes l.core swap;
  ran : (swap : _) (origin : Origin) (turns : List Turn) → g.C.Core.ran l.fn.core swap origin turns → g.C.Core.ran l.core swap origin turns;
  files : (q : List ℕ) → file_at (g.C.Core.stored l.core) q ≡ file_at (g.C.Core.stored l.fn.core) q;
  going : Going (file_at (g.C.Core.stored l.fn.core)) (g.F.Files.held l.fn.files) (g.F.Files.faults l.fn.files) (changed_in (g.C.Core.stored l.fn.core)) (changed_in (g.C.Core.stored l.core))
      (g.F.Files.held l.files) (g.F.Files.faults l.files) l.counter 0;
}
