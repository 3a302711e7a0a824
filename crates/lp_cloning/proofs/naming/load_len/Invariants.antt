use Rattle.std.proofs.Common.{◌≡◌, ◌+◌, ◌-◌, ◌≤◌, length, drop}
use Rattle.std.specs.List.{position_or_len}
use Rattle.lp_meaning.specs.WorldSteps.{is_hash}
use Rattle.lp_cloning.proofs.naming.load_len.Given as goal

abbrev pub invariant-loop-n : goal.invariant-loop-n
invariant-loop-n l = (l.n ≤ length l.name) × (l.n + position_or_len is_hash (drop l.n l.name) ≡ position_or_len is_hash l.name)

abbrev pub decreases-loop-n : goal.decreases-loop-n
decreases-loop-n l = length l.name - l.n
