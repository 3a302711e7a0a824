use Rattle.std.proofs.Common.{take}
use Rattle.lp_verify.specs.Marks.{MarksBegins}
use Rattle.lp_verify.proofs.owners.begins.Given as goal

abbrev pub invariant-loop-i : goal.invariant-loop-i
invariant-loop-i l = MarksBegins l.places (take l.i l.rows) l.marks.items
