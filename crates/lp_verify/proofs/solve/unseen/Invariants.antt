use Rattle.std.proofs.Common.{◌≡◌, replicate}
use Rattle.lp_verify.specs.declared.seen.Seen.TheVariants as seen
use Rattle.lp_verify.proofs.solve.unseen.Given as goal

abbrev pub invariant-loop-i : goal.invariant-loop-i
invariant-loop-i l = l.seen.items ≡ replicate l._i seen.Never
