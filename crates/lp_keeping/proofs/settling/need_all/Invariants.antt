use Rattle.std.proofs.Common.{◌≡◌, drop}
use Rattle.lp_keeping.specs.Marks.{with_marks}
use Rattle.lp_keeping.specs.Needs.{versions_of}
use Rattle.lp_keeping.proofs.settling.need_all.Given as goal

abbrev pub invariant-loop-n : goal.invariant-loop-n
invariant-loop-n l = with_marks l.marks (versions_of (drop l.n l.objects)) ≡ with_marks l.fn.marks (versions_of l.objects)
