use Rattle.std.proofs.Common.{slice_index, ◌≡◌, ℕ, ◌+◌, ◌<◌}
use Rattle.lp_search.proofs.two_way.repeats_before.Given as goal

abbrev pub invariant-loop-k : goal.invariant-loop-k
invariant-loop-k l = (j : ℕ) → j < l.k → slice_index l.needle j ≡ slice_index l.needle (j + l.period)
