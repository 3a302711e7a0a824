use Rattle.lp_sessions.proofs.Tables.{table_same}
use Rattle.lp_sessions.proofs.sessions.Sessions.take_outs.Goals as goal

pub invariant_of-self : goal.invariant_of-self
invariant_of-self c = (table_same _ _ _ c.take_each.ensures.numbers c.self.invariant.0, c.take_each.ensures.index)
