use Rattle.std.proofs.Common.{drop}
use Rattle.lp_sessions.proofs.Index.{Looks}
use Rattle.lp_sessions.proofs.each.slowest_listed.Given as goal

abbrev pub invariant-loop-at : goal.invariant-loop-at
invariant-loop-at l = Looks l.sessions (drop l.at l.listed) l.done
