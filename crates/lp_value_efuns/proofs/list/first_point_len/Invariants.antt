use Rattle.std.proofs.Common.{◌≡◌, ◌+◌, ◌-◌, ◌≤◌, length, drop, not, nat_eq}
use Rattle.std.specs.List.{prefix_len}
use Rattle.lp_value_efuns.proofs.list.first_point_len.Given as goal

abbrev pub invariant-loop-n : goal.invariant-loop-n
invariant-loop-n l = (l.n ≤ length l.s) × (l.n + prefix_len (λ p. not (nat_eq l.c p)) (drop l.n l.s) ≡ prefix_len (λ p. not (nat_eq l.c p)) l.s)

abbrev pub decreases-loop-n : goal.decreases-loop-n
decreases-loop-n l = length l.s - l.n
