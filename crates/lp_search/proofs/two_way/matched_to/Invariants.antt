use Rattle.std.proofs.Common.{slice_index, ◌≡◌, ◌≤◌, ◌<◌, ◌+◌, ◌-◌, ℕ}
use Rattle.lp_search.proofs.two_way.matched_to.Given as goal

abbrev pub invariant-loop-i : goal.invariant-loop-i
invariant-loop-i l = (l.start ≤ l.i) × (l.i ≤ l.m) × ((k : ℕ) → l.start ≤ k → k < l.i
    → slice_index l.needle k ≡ slice_index l.hay (l.pos + k))

abbrev pub decreases-loop-i : goal.decreases-loop-i
decreases-loop-i l = l.m - l.i
