use Rattle.std.proofs.Common.{◌≡◌, ◌++◌, drop, map}
use Rattle.lp_meaning.specs.FileEfuns.{named_value}
use Rattle.lp_filing.specs.Rows.{saved_rows}
use Rattle.lp_filing.proofs.rows.named_values.Given as goal

abbrev pub invariant-loop-i : goal.invariant-loop-i
invariant-loop-i l = l.named.items ++ map (named_value l.values) (saved_rows l.i (drop l.i l.rows)) ≡ map (named_value l.values) (saved_rows 0 l.rows)
