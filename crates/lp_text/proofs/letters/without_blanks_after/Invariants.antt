use Rattle.std.proofs.Common.{◌≡◌, ◌+◌, ◌≤◌, length, take}
use Rattle.std.specs.List.{suffix_len}
use Rattle.lp_text.specs.Texts.{is_blank}
use Rattle.lp_text.proofs.letters.without_blanks_after.Given as goal

abbrev pub invariant-loop-n : goal.invariant-loop-n
invariant-loop-n l = (l.n ≤ length l.s) × (l.n + suffix_len is_blank l.s ≡ length l.s + suffix_len is_blank (take l.n l.s))

abbrev pub decreases-loop-n : goal.decreases-loop-n
decreases-loop-n l = l.n
