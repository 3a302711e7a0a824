use Rattle.std.proofs.Common.{◌≡◌, drop}
use Rattle.lp_report.specs.Needed.{live_versions, with_marks}
use Rattle.lp_report.proofs.marking.mark_live.Given as goal

abbrev pub invariant-loop-n : goal.invariant-loop-n
invariant-loop-n l = with_marks l.marks (live_versions (drop l.n l.objects)) ≡ with_marks l.fn.marks (live_versions l.objects)
