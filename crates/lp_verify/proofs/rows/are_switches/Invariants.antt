use Rattle.std.proofs.Common.{◌≡◌, drop}
use Rattle.lp_verify.specs.Rows.{are_switches}
use Rattle.lp_verify.proofs.rows.are_switches.Given as goal

abbrev pub invariant-loop-row : goal.invariant-loop-row
invariant-loop-row l = are_switches l.raw l.raw.switches ≡ are_switches l.raw (drop l.row-index l.raw.switches)
