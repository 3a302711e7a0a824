use Rattle.std.proofs.Common.{◌≡◌, take}
use Rattle.lp_front.proofs.copies.variables.Given as goal

abbrev pub invariant-loop-one : goal.invariant-loop-one
invariant-loop-one l = l.rows.items ≡ take l.one-index l.from
