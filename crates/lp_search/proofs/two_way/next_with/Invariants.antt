use Rattle.std.proofs.Common.{◌≡◌, ◌≤◌, ◌-◌, slice_index}
use Rattle.lp_search.specs.Places.{Nowhere}
use Rattle.lp_search.proofs.two_way.next_with.Given as goal

abbrev pub invariant-loop-at : goal.invariant-loop-at
invariant-loop-at l = (l.fn.from ≤ l.at) × Nowhere (λ k. slice_index l.hay k ≡ l.c) l.fn.from l.at

abbrev pub decreases-loop-at : goal.decreases-loop-at
decreases-loop-at l = l.to - l.at
