use Rattle.lp_verify.proofs.Marking.{Spreads}
use Rattle.lp_verify.proofs.owners.owners.Given as goal

abbrev pub invariant-loop-at : goal.invariant-loop-at
invariant-loop-at l = Spreads l.places l.rows l.at l.marks.items
