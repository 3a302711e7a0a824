use Rattle.std.proofs.Common.{◌≡◌, drop, find, nat_eq}
use Rattle.lp_world.proofs.connections.first_of.Given as goal

abbrev pub invariant-loop-c : goal.invariant-loop-c
invariant-loop-c l = find (λ c. nat_eq c.object.0 l.ob.0) (drop l.c-index l.open) ≡ find (λ c. nat_eq c.object.0 l.ob.0) l.open
