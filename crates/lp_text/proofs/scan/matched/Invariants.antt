use Rattle.std.proofs.Common.{◌≡◌, ◌++◌, ◌-◌, drop, length}
use Rattle.lp_text.specs.Forms.{parts, parts_after}
use Rattle.lp_text.specs.Scans.{scanned}
use Rattle.lp_text.proofs.scan.matched.Given as goal

abbrev pub invariant-loop-at : goal.invariant-loop-at
invariant-loop-at l = scanned (parts l.form) l.s ≡ l.all.items ++ scanned (parts_after l.at 0 (drop l.at l.form)) l.text

abbrev pub decreases-loop-at : goal.decreases-loop-at
decreases-loop-at l = length l.form - l.at
