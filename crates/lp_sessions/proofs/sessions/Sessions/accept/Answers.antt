use Rattle.std.proofs.Common.{◌<◌, arith}
use Rattle.lp_sessions.proofs.Index.{index_push}
use Rattle.lp_sessions.proofs.Tables.{table_pushed}
use Rattle.lp_sessions.proofs.sessions.Sessions.accept.Goals as goal

pub invariant_of-self-2 : goal.invariant_of-self-2
invariant_of-self-2 c =
    let higher : c.self.inside.highest < c.args.number = omega (arith, c.if-number-self.false) in
    (table_pushed _ _ _ _ _ higher c.new.ensures c.in_ok-push.ensures.items c.self.invariant.0, index_push _ c.args.number _ _ _ c.new.ensures c.in_ok-push.ensures.items c.self.invariant.1)
