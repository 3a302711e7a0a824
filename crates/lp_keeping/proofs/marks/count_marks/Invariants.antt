use Rattle.std.proofs.Common.{◌≡◌, ◌≤◌, ◌+◌, drop}
use Rattle.lp_keeping.specs.Marks.{count}
use Rattle.lp_keeping.proofs.marks.count_marks.Given as goal

abbrev pub invariant-loop-b : goal.invariant-loop-b
invariant-loop-b l = record { counted : l.count + count (drop l.b-index l.marks) ≡ count l.marks; few : l.count ≤ l.b-index }
