use Rattle.lp_driver.proofs.Known.{KnownBelow}
use Rattle.lp_driver.proofs.knowing.knows_all.Given as goal

abbrev pub invariant-loop-n : goal.invariant-loop-n
invariant-loop-n l = KnownBelow l.live l.n
