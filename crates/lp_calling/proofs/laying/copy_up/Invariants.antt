use Rattle.std.proofs.Common.{◌≡◌, ◌-◌, ◌++◌, drop, take}
use Rattle.lp_calling.proofs.laying.copy_up.Given as goal

abbrev pub invariant-loop-i : goal.invariant-loop-i
invariant-loop-i l = l.stack.items ≡ l.initial.stack.items ++ take (l.i - l.from) (drop l.from l.initial.stack.items)
