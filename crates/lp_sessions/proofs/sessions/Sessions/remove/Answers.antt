use Rattle.lp_sessions.proofs.Index.{index_remove}
use Rattle.lp_sessions.proofs.Tables.{table_removed}
use Rattle.lp_sessions.proofs.sessions.Sessions.remove.Goals as goal

pub invariant_of-self : goal.invariant_of-self
invariant_of-self c = (table_removed _ c.args.at _ _ c.remove.ensures.items c.self.invariant.0, index_remove _ c.args.at _ _ c.remove.ensures.items c.self.invariant.1)
