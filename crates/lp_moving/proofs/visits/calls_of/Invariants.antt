use Rattle.std.proofs.Common.{◌≡◌, ◌∷◌, ◌++◌, drop, map}
use Rattle.lp_places.specs.Places.{inits_between}
use Rattle.lp_moving.specs.Moving.{init_of, others_in}
use Rattle.lp_moving.proofs.visits.calls_of.Given as goal

-- the calls so far, with those for the rest
abbrev pub invariant-loop-o : goal.invariant-loop-o
invariant-loop-o l = map init_of l.calls.items ++ inits_between l.item (others_in l.item (drop l.o-index l.others)) ≡ record { of = l.dest; player = l.item } ∷ inits_between l.item (others_in l.item l.others)
