use Rattle.std.proofs.Common.{◌≡◌, ◌+◌, ◌-◌, ◌≤◌, length, drop, not}
use Rattle.std.specs.List.{prefix_len}
use Rattle.lp_values.specs.Read.{same}
use Rattle.lp_value_efuns.proofs.list.first_same_len.Given as goal

abbrev pub invariant-loop-n : goal.invariant-loop-n
invariant-loop-n g l = (l.n ≤ length l.items) × (l.n + prefix_len (λ v. not (same (g.L.Living.live l.live) v l.x)) (drop l.n l.items) ≡ prefix_len (λ v. not (same (g.L.Living.live l.live) v l.x)) l.items)

abbrev pub decreases-loop-n : goal.decreases-loop-n
decreases-loop-n g l = length l.items - l.n
