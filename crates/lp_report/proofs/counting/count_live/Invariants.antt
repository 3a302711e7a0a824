use Rattle.std.proofs.Common.{◌≡◌, ◌≤◌, length, take}
use Rattle.std.specs.Prelude.{filter}
use Rattle.lp_world.specs.Rows.{is_live_row}
use Rattle.lp_report.proofs.counting.count_live.Given as goal

abbrev pub invariant-loop-n : goal.invariant-loop-n
invariant-loop-n l = record {
  counted : l.count ≡ length (filter is_live_row (take l.n l.objects));
  few : l.count ≤ l.n;
}
