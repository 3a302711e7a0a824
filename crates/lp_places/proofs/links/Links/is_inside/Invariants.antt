use Rattle.std.proofs.Common.{◌≡◌, List}
use Rattle.lp_places.specs.Places.{Lying, is_inside, is_inside_by}
use Rattle.lp_places.specs.Table.{IsTable}
use Rattle.lp_places.proofs.links.Links.is_inside.Given as goal

-- the answer is that of the object which is reached, with as many steps as are left
abbrev pub invariant-loop-left : goal.invariant-loop-left
invariant-loop-left l = (links : List Lying) → IsTable l.self links → is_inside_by l.left links l.at l.outer ≡ is_inside links l.fn.o l.outer

abbrev pub decreases-loop-left : goal.decreases-loop-left
decreases-loop-left l = l.left
