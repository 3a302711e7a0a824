use Rattle.std.proofs.Common.{map, take}
use Rattle.lp_verify.specs.Flow.{case_exit, leads}
use Rattle.lp_verify.specs.Walks.{known_of, Moves}
use Rattle.lp_verify.proofs.walk.Walk.lead_cases.Given as goal

abbrev pub invariant-loop-case : goal.invariant-loop-case
invariant-loop-case l = Moves (leads l.body l.at (known_of l.fn.self.openings l.known) l.effect (map case_exit (take l.case-index l.cases))) l.fn.self l.self
