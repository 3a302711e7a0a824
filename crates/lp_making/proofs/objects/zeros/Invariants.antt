use Rattle.std.proofs.Common.{◌≡◌}
use Rattle.lp_making.specs.Objects.{zeros as zero_values}
use Rattle.lp_making.proofs.objects.zeros.Given as goal

abbrev pub invariant-loop-i : goal.invariant-loop-i
invariant-loop-i l = l.values.items ≡ zero_values l._i
