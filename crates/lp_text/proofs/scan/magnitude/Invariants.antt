use Rattle.std.proofs.Common.{◌≡◌, ◌≤◌, take}
use Rattle.lp_text.specs.Scans.{digits_number}
use Rattle.lp_text.proofs.scan.magnitude.Given as goal

abbrev pub invariant-loop-c : goal.invariant-loop-c
invariant-loop-c l = (l.n ≤ 9223372036854775808) × (l.n ≡ digits_number (take l.c-index l.digits))
