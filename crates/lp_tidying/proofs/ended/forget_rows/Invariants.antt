use Rattle.std.proofs.Common.{◌≡◌, drop}
use Rattle.lp_tidying.specs.Ended.{without_rows}
use Rattle.lp_tidying.proofs.ended.forget_rows.Given as goal

abbrev pub invariant-loop-o : goal.invariant-loop-o
invariant-loop-o l = without_rows l.objects (drop l.o-index l.died) ≡ without_rows l.fn.objects l.died
