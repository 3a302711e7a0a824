use Rattle.std.proofs.Common.{List, subst}
use Rattle.lp_sessions.specs.Index.{IsIndex}
use Rattle.lp_sessions.specs.declared.session.Session.{Session}
use Rattle.lp_sessions.proofs.Tables.{table_same}
use Rattle.lp_sessions.proofs.sessions.Sessions.offer_all.Goals as goal

pub invariant_of-self : goal.invariant_of-self
invariant_of-self g c = (table_same _ _ _ c.offer_listed.ensures.numbers c.self.invariant.0, subst (λ (ss : List Session). IsIndex c.forget_idle.new.listed.items ss) c.as_slice-2.ensures.value c.forget_idle.ensures.index)
