use Rattle.std.proofs.Common.{◌≡◌, ◌∷◌, ◌++◌, drop}
use Rattle.lp_places.specs.Table.{all_but}
use Rattle.lp_places.proofs.links.with_first.Given as goal

-- what is there, with what comes from the rest
abbrev pub invariant-loop-o : goal.invariant-loop-o
invariant-loop-o l = l.all.items ++ all_but l.item (drop l.o-index l.items) ≡ l.item ∷ all_but l.item l.items
