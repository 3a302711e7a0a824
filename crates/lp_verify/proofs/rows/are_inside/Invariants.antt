use Rattle.std.proofs.Common.{◌≡◌, drop}
use Rattle.lp_verify.specs.Rows.{are_inside}
use Rattle.lp_verify.proofs.rows.are_inside.Given as goal

abbrev pub invariant-loop-case : goal.invariant-loop-case
invariant-loop-case l = are_inside l.places l.cases ≡ are_inside l.places (drop l.case-index l.cases)
