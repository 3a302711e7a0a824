use Rattle.std.proofs.Common.{◌≡◌, drop}
use Rattle.lp_keeping.specs.Marks.{with_marks}
use Rattle.lp_keeping.proofs.marks.mark_all.Given as goal

abbrev pub invariant-loop-p : goal.invariant-loop-p
invariant-loop-p l = with_marks l.marks (drop l.p-index l.versions) ≡ with_marks l.fn.marks l.versions
