use Rattle.std.proofs.Common.{◌≡◌, ◌++◌, take}
use Rattle.lp_calling.proofs.laying.put_all.Given as goal

abbrev pub invariant-loop-v : goal.invariant-loop-v
invariant-loop-v l = l.stack.items ≡ l.fn.stack.items ++ take l.v-index l.items
