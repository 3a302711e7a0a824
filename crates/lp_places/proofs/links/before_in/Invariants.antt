use Rattle.std.proofs.Common.{◌≡◌, None, drop}
use Rattle.lp_places.specs.Table.{before_in}
use Rattle.lp_places.proofs.links.before_in.Given as goal

-- the answer is that of the rest
abbrev pub invariant-loop-o : goal.invariant-loop-o
invariant-loop-o l = before_in l.last l.item (drop l.o-index l.items) ≡ before_in None l.item l.items
