use Rattle.std.proofs.Common.{◌≡◌, ◌+◌, ◌≤◌, take, drop}
use Rattle.std.specs.Char.{is_ascii_digit}
use Rattle.std.specs.List.{prefix_len}
use Rattle.lp_text.specs.Scans.{digits_number}
use Rattle.lp_value_efuns.proofs.number.leading_magnitude.Given as goal

abbrev pub invariant-loop-c : goal.invariant-loop-c
invariant-loop-c l = (l.n ≤ 9223372036854775808) × (l.n ≡ digits_number (take l.c-index l.s)) × (l.c-index + prefix_len is_ascii_digit (drop l.c-index l.s) ≡ prefix_len is_ascii_digit l.s)
