use Rattle.std.proofs.Common.{◌≡◌, ◌≤◌, ◌+◌, ◌-◌, drop, length}
use Rattle.lp_text.specs.Forms.{parts, parts_after, fault_of, count_of}
use Rattle.lp_text.proofs.form.wanted.Given as goal

abbrev pub invariant-loop-at : goal.invariant-loop-at
invariant-loop-at l = record {
  few : l.count ≤ l.at;
  fault : fault_of (parts l.form) ≡ fault_of (parts_after l.at 0 (drop l.at l.form));
  count : count_of (parts l.form) ≡ l.count + count_of (parts_after l.at 0 (drop l.at l.form));
}

abbrev pub decreases-loop-at : goal.decreases-loop-at
decreases-loop-at l = length l.form - l.at
