use Rattle.std.proofs.Common.{◌≡◌, ◌≤◌, ◌-◌, length, drop}
use Rattle.std.specs.List.{fold}
use Rattle.lp_values.specs.Hashed.{fours}
use Rattle.lp_values.proofs.text.feed.Given as goal

abbrev pub invariant-loop-at : goal.invariant-loop-at
invariant-loop-at g l = (l.at ≤ length l.chars) × (fold g.H.Hasher.write l.fn.state (fours l.chars) ≡ fold g.H.Hasher.write l.state (fours (drop l.at l.chars)))

abbrev pub decreases-loop-at : goal.decreases-loop-at
decreases-loop-at g l = length l.chars - l.at
