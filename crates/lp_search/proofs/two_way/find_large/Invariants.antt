use Rattle.std.proofs.Common.{◌≤◌, ◌-◌, length}
use Rattle.lp_search.specs.Places.{Nowhere, Stands}
use Rattle.lp_search.proofs.two_way.find_large.Given as goal

abbrev pub invariant-loop-pos : goal.invariant-loop-pos
invariant-loop-pos l = (l.from ≤ l.pos) × (l.pos ≤ length l.hay)
    × Nowhere (Stands l.needle l.hay) l.from l.pos

abbrev pub decreases-loop-pos : goal.decreases-loop-pos
decreases-loop-pos l = length l.hay - l.pos
