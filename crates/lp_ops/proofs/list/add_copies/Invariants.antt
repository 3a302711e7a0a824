use Rattle.std.proofs.Common.{◌≡◌, ◌++◌, take}
use Rattle.lp_ops.proofs.list.add_copies.Given as goal

abbrev pub invariant-loop-v : goal.invariant-loop-v
invariant-loop-v l = l.into.items ≡ l.fn.into.items ++ take l.v-index l.items
