use Rattle.lp_world.specs.Closed.{IsClosed}
use Rattle.lp_world_tests.proofs.globals.run.Given as goal

abbrev pub invariant-loop-n : goal.invariant-loop-n
invariant-loop-n l = IsClosed l.r.live
