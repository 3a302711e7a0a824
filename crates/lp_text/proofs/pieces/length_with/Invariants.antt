use Rattle.std.proofs.Common.{◌≡◌, ◌≤◌, ◌+◌, ◌++◌, take, length}
use Rattle.std.specs.List.{flat_map}
use Rattle.lp_text.proofs.pieces.length_with.Given as goal
use Rattle.lp_values.specs.Limits.{max_code_points}

abbrev pub invariant-loop-part : goal.invariant-loop-part
invariant-loop-part l = (l.total ≤ max_code_points) × (l.total ≡ l.start + length (flat_map (λ p. l.by ++ p) (take l.part-index l.rest)))
