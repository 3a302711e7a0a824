use Rattle.std.proofs.Common.{◌≡◌, ◌+◌, ◌-◌, ◌≤◌, length, drop}
use Rattle.std.specs.List.{prefix_len}
use Rattle.lp_text.specs.Texts.{is_blank}
use Rattle.lp_text.proofs.letters.without_blanks_before.Given as goal

abbrev pub invariant-loop-n : goal.invariant-loop-n
invariant-loop-n l = (l.n ≤ length l.s) × (l.n + prefix_len is_blank (drop l.n l.s) ≡ prefix_len is_blank l.s)

abbrev pub decreases-loop-n : goal.decreases-loop-n
decreases-loop-n l = length l.s - l.n
