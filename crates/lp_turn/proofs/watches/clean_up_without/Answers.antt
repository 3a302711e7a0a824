use Rattle.std.proofs.lemmas.Result.{IfOk-weaker}
use Rattle.lp_turn.proofs.Watched.{clean_up_ends}
use Rattle.lp_turn.proofs.watches.clean_up_without.Goals as goal

pub returns-clause-begins : goal.returns-clause-begins
returns-clause-begins c =
    IfOk-weaker c.clean_up_next.result _ _ (λ r b. clean_up_ends c.args.live.now c.end_watch.new.live c.clean_up_next.new.live c.args.o c.args.due r c.end_watch.ensures.ends b) c.clean_up_next.ensures.goes
