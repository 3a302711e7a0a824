use Rattle.std.proofs.Common.{◌≡◌, ◌≤◌, ◌+◌, length}
use Rattle.std.specs.Prelude.{filter}
use Rattle.lp_report.specs.Needed.{kept_rows}
use Rattle.lp_report.specs.Report.{is_out_at}
use Rattle.lp_report.proofs.keeping.count_kept.Given as goal

abbrev pub invariant-versions : goal.invariant-versions
invariant-versions l = record {
  all : l.kept.all + length (kept_rows l.versions l.n l.needed) ≡ length (kept_rows l.versions (length l.versions) l.fn.needed);
  out : l.kept.out + length (filter (is_out_at l.versions) (kept_rows l.versions l.n l.needed)) ≡ length (filter (is_out_at l.versions) (kept_rows l.versions (length l.versions) l.fn.needed));
  few : l.kept.all + l.n ≤ length l.versions;
  fewer : l.kept.out ≤ l.kept.all;
}

abbrev pub decreases-versions : goal.decreases-versions
decreases-versions l = l.n
