use Rattle.std.proofs.Common.{◌≡◌, ◌≤◌, ◌-◌, ◌++◌, drop, length}
use Rattle.lp_text.specs.Pieces.{pieces}
use Rattle.lp_text.proofs.pieces.pieces.Given as goal

abbrev pub invariant-loop-place : goal.invariant-loop-place
invariant-loop-place l = (l.from ≤ length l.s) × (pieces l.by l.s ≡ l.all.items ++ pieces l.by (drop l.from l.s))

abbrev pub decreases-loop-place : goal.decreases-loop-place
decreases-loop-place l = length l.s - l.from
