use Rattle.std.proofs.lemmas.Result.{IfOk-weaker}
use Rattle.lp_turn.proofs.Watched.{clean_up_goes, no_clean_up_goes}
use Rattle.lp_turn.proofs.watches.clean_up_next.Goals as goal

pub returns-in-Some-clause-goes : goal.returns-in-Some-clause-goes
returns-in-Some-clause-goes c =
    IfOk-weaker c.clean_up.result _ _ (λ r b. clean_up_goes c.args.live.now c.clean_up.new.live c.args.due c.next_watched.new.due c.in-Some.o r c.in-Some.ensures.first c.in-Some.ensures.moment b) c.clean_up.ensures.begins

pub returns-in-None-clause-goes : goal.returns-in-None-clause-goes
returns-in-None-clause-goes c = no_clean_up_goes c.args.live.now c.args.due c.next_watched.new.due.objects c.in-None.ensures.first
