use Rattle.std.proofs.Common.{length, ◌-◌, ◌≡◌, ◌++◌, drop}
use Rattle.lp_meaning.specs.EventTurns.{line_text, line_text_from}
use Rattle.lp_line_text.proofs.text_of_line.Given as goal

-- what was read, and what the rest gives, is what the line gives
abbrev pub invariant-loop-at : goal.invariant-loop-at
invariant-loop-at l = l.text.items ++ line_text_from l.is_bad 0 (drop l.at l.bytes) ≡ line_text l.bytes

abbrev pub decreases-loop-at : goal.decreases-loop-at
decreases-loop-at l = length l.bytes - l.at
