use Rattle.std.proofs.Common.{◌≡◌, drop}
use Rattle.lp_verify.specs.Rows.{rows_rise}
use Rattle.lp_verify.proofs.rows.rows_rise.Given as goal

abbrev pub invariant-loop-row : goal.invariant-loop-row
invariant-loop-row l = rows_rise l.places 0 l.rows ≡ rows_rise l.places l.low (drop l.row-index l.rows)
