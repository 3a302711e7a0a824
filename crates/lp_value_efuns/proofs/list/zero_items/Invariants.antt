use Rattle.std.proofs.Common.{◌≡◌, replicate}
use Rattle.lp_language.specs.Course.{zero_value}
use Rattle.lp_value_efuns.proofs.list.zero_items.Given as goal

abbrev pub invariant-loop-i : goal.invariant-loop-i
invariant-loop-i l = l.all.items ≡ replicate l.i zero_value
