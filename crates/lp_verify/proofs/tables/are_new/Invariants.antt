use Rattle.lp_verify.proofs.Naming.{NamesSoFar}
use Rattle.lp_verify.proofs.tables.are_new.Given as goal

abbrev pub invariant-loop-slot : goal.invariant-loop-slot
invariant-loop-slot l = NamesSoFar l.slot-index l.slots l.names.keys
