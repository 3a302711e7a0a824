use Rattle.std.proofs.Common.{◌≡◌, ◌≤◌, ◌<◌, ◌+◌, ◌-◌, ℕ, length, slice_index}
use Rattle.lp_search.specs.Places.{Nowhere, Stands}
use Rattle.lp_search.proofs.two_way.find_small.Given as goal

abbrev pub invariant-loop-pos : goal.invariant-loop-pos
invariant-loop-pos l = (l.from ≤ l.pos) × (l.pos ≤ length l.hay)
    × Nowhere (Stands l.needle l.hay) l.from l.pos
    × (l.known < length l.needle)
    × ((k : ℕ) → k < l.known → slice_index l.needle k ≡ slice_index l.hay (l.pos + k))

abbrev pub decreases-loop-pos : goal.decreases-loop-pos
decreases-loop-pos l = length l.hay - l.pos
