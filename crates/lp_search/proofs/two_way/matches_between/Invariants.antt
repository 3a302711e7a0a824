use Rattle.std.proofs.Common.{slice_index, ◌≡◌, ◌≤◌, ◌<◌, ◌+◌, ◌-◌, ℕ}
use Rattle.lp_search.proofs.two_way.matches_between.Given as goal

abbrev pub invariant-loop-j : goal.invariant-loop-j
invariant-loop-j l = (l.j ≤ l.high) × ((k : ℕ) → l.j ≤ k → k < l.high
    → slice_index l.needle k ≡ slice_index l.hay (l.pos + k))

abbrev pub decreases-loop-j : goal.decreases-loop-j
decreases-loop-j l = l.j - l.low
