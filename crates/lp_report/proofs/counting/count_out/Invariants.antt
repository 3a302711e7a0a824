use Rattle.std.proofs.Common.{◌≡◌, ◌≤◌, length, take}
use Rattle.std.specs.Prelude.{filter}
use Rattle.lp_report.specs.Report.{is_out_object}
use Rattle.lp_report.proofs.counting.count_out.Given as goal

abbrev pub invariant-loop-n : goal.invariant-loop-n
invariant-loop-n l = record {
  counted : l.count ≡ length (filter is_out_object (take l.n l.objects));
  few : l.count ≤ l.n;
}
