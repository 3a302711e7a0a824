use Rattle.std.proofs.lemmas.Result.{IfOk-weaker}
use Rattle.lp_turn.proofs.Watched.{no_reset_goes, reset_goes}
use Rattle.lp_turn.proofs.watches.reset_next.Goals as goal

pub returns-in-Some-clause-goes : goal.returns-in-Some-clause-goes
returns-in-Some-clause-goes c =
    IfOk-weaker c.reset.result _ _ (λ r b. reset_goes c.args.live.now c.reset.new.live c.args.due c.next_watched.new.due c.in-Some.o r c.in-Some.ensures.first c.in-Some.ensures.moment b) c.reset.ensures.begins

pub returns-in-None-clause-goes : goal.returns-in-None-clause-goes
returns-in-None-clause-goes c = no_reset_goes c.args.live.now c.args.due c.next_watched.new.due.objects c.in-None.ensures.first
