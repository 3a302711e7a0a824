use Rattle.std.proofs.lemmas.Result.{IfOk-weaker}
use Rattle.lp_turn.proofs.Beaten.{beat_goes, no_beat_goes}
use Rattle.lp_turn.proofs.heart_beats.beat_next.Goals as goal

pub returns-in-Some-clause-goes : goal.returns-in-Some-clause-goes
returns-in-Some-clause-goes c =
    IfOk-weaker c.beat.result _ _ (λ r b. beat_goes c.args.live.now c.beat.new.live c.args.due c.next_heart.new.due c.in-Some.o r c.in-Some.ensures.first c.in-Some.ensures.moment b) c.beat.ensures.begins

pub returns-in-None-clause-goes : goal.returns-in-None-clause-goes
returns-in-None-clause-goes c = no_beat_goes c.args.live.now c.args.due c.next_heart.new.due.objects c.in-None.ensures.first
