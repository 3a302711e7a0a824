use Rattle.std.proofs.Common.{◌≡◌, ◌+◌, ◌-◌, ◌≤◌, length, drop, nat_eq}
use Rattle.std.specs.List.{position_or_len}
use Rattle.lp_text.proofs.scan.literal_of.Given as goal

abbrev pub invariant-loop-n : goal.invariant-loop-n
invariant-loop-n l = (l.n ≤ length l.form) × (l.n + position_or_len (λ c. nat_eq c 37) (drop l.n l.form) ≡ position_or_len (λ c. nat_eq c 37) l.form)

abbrev pub decreases-loop-n : goal.decreases-loop-n
decreases-loop-n l = length l.form - l.n
