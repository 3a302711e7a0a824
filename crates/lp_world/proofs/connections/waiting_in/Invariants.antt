use Rattle.std.proofs.Common.{◌≡◌, drop, find, nat_eq}
use Rattle.lp_world.proofs.connections.waiting_in.Given as goal

abbrev pub invariant-loop-x : goal.invariant-loop-x
invariant-loop-x l = find (λ x. nat_eq x.connection l.number) (drop l.x-index l.waiting) ≡ find (λ x. nat_eq x.connection l.number) l.waiting
