use Rattle.std.proofs.Common.{◌≡◌, take}
use Rattle.lp_turn.specs.Starts.{texts_of}
use Rattle.lp_turn.proofs.starting.texts_in.Given as goal

abbrev pub invariant-loop-v : goal.invariant-loop-v
invariant-loop-v l = l.all.items ≡ texts_of (take l.v-index l.values)
