use Rattle.std.proofs.Common.{◌≡◌, ◌++◌, ◌+◌, length}
use Rattle.std.specs.Prelude.{flat_map}
use Rattle.lp_check.specs.Report.{fault_line}
use Rattle.lp_check.proofs.Telling.{entries_faults}
use Rattle.lp_check.proofs.lines.put_known.Given as goal

-- what was told so far and what the rest tells is what the whole tells
abbrev pub invariant-loop-path : goal.invariant-loop-path
invariant-loop-path l = record {
  lines : l.out.items ++ flat_map fault_line (entries_faults l._path-iterator) ≡ l.fn.out.items ++ flat_map fault_line (entries_faults l.known.files.entries);
  counted : l.count + length (entries_faults l._path-iterator) ≡ length (entries_faults l.known.files.entries);
}
