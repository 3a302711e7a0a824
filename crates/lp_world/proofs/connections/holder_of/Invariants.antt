use Rattle.std.proofs.Common.{◌≡◌, drop, find, nat_eq}
use Rattle.lp_world.proofs.connections.holder_of.Given as goal

abbrev pub invariant-loop-c : goal.invariant-loop-c
invariant-loop-c l = find (λ c. nat_eq c.number l.number) (drop l.c-index l.open) ≡ find (λ c. nat_eq c.number l.number) l.open
