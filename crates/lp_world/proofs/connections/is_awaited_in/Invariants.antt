use Rattle.std.proofs.Common.{◌≡◌, drop, nat_eq}
use Rattle.std.specs.List.{list_any}
use Rattle.lp_world.proofs.connections.is_awaited_in.Given as goal

abbrev pub invariant-loop-x : goal.invariant-loop-x
invariant-loop-x l = list_any (λ x. nat_eq x.connection l.number) (drop l.x-index l.waiting) ≡ list_any (λ x. nat_eq x.connection l.number) l.waiting
